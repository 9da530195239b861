-- What becomes of a socket that its door goes on with, and of the bytes that came there.
use Rattle.std.specs.Prelude.{ℕ, List, ◌≡◌, ◌≤◌, ◌<◌, ◌++◌}
use Rattle.request_framing.specs.declared.framing.Extent.{Extent}
use Rattle.door_sockets.specs.declared.guest.Step.{Step}
use Rattle.door_sockets.specs.declared.guest.Step.TheVariants.{Give, Refuse, Again, Stay, NoMemory, Close}
use Rattle.request_framing.specs.Gives.{GivesWhole, GivesRefused}

-- of what waited and of a piece that came a whole request is given
pub record GivesOf (reaches : List ℕ → Extent → Type 0) (old given new : List ℕ) : Type 0 where
  pub piece : List ℕ
  pub gives : GivesWhole reaches (old ++ piece) given new

-- what waited and a piece that came are given as what is refused
pub record RefusesOf (reaches : List ℕ → Extent → Type 0) (old given new : List ℕ) : Type 0 where
  pub piece : List ℕ
  pub gives : GivesRefused reaches (old ++ piece) given new

-- all stays, with a piece that came
pub record KeepsAll (old new : List ℕ) : Type 0 where
  pub piece : List ℕ
  pub kept : new ≡ old ++ piece

-- No byte is lost but where the socket is let go.
abbrev pub Steps : (List ℕ → Extent → Type 0) → List ℕ → Step → List ℕ → Type 0
Steps reaches old (Give given) new = GivesOf reaches old given new
Steps reaches old (Refuse given) new = RefusesOf reaches old given new
Steps reaches old Again new = KeepsAll old new
Steps reaches old Stay new = KeepsAll old new
Steps reaches old NoMemory new = Unit {0}
Steps reaches old Close new = Unit {0}

-- of what comes after the last reply no more than this is read away before the socket is let go
abbrev pub linger_bytes : ℕ
linger_bytes = 16777216

-- so many bytes of a reply are gathered
abbrev pub gathered_bytes : ℕ
gathered_bytes = 65536

-- a socket of which more is read away stays only as long as what was read away is counted and within the limit
abbrev pub ReadsAway : Step → ℕ → ℕ → Type 0
ReadsAway (Give given) old new = ⊥
ReadsAway (Refuse given) old new = ⊥
ReadsAway Again old new = (old < new) × (new ≤ linger_bytes)
ReadsAway Stay old new = new ≡ old
ReadsAway NoMemory old new = ⊥
ReadsAway Close old new = Unit {0}

-- nothing is given, and all stays
abbrev pub Kept : Step → List ℕ → List ℕ → Type 0
Kept (Give given) old new = ⊥
Kept (Refuse given) old new = ⊥
Kept Again old new = new ≡ old
Kept Stay old new = new ≡ old
Kept NoMemory old new = Unit {0}
Kept Close old new = Unit {0}

-- nothing is given, and it stays
abbrev pub IsRest : Step → Type 0
IsRest (Give given) = ⊥
IsRest (Refuse given) = ⊥
IsRest Again = Unit {0}
IsRest Stay = Unit {0}
IsRest NoMemory = ⊥
IsRest Close = ⊥
