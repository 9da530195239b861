-- What a door may give of the bytes that came on a socket, and what stays with the socket.
use Rattle.std.specs.Prelude.{ℕ, List, [], ◌≡◌, ◌≤◌, ◌++◌, ◌⊎◌, length, take, drop}
use Rattle.request_framing.specs.declared.framing.Extent.{Extent}
use Rattle.request_framing.specs.declared.framing.Extent.TheVariants.{Whole, Head, Body, Refused}
use Rattle.request_framing.specs.declared.waiting.Came.{Came}
use Rattle.request_framing.specs.declared.waiting.Came.TheVariants as came

-- what is given never fails
abbrev pub no_faults : ℕ
no_faults = 0

-- a whole request has no more bytes than there are
abbrev pub Fits : List ℕ → Extent → Type 0
Fits bytes (Whole size) = size ≤ length bytes
Fits bytes Head = Unit {0}
Fits bytes (Body size) = Unit {0}
Fits bytes Refused = Unit {0}

-- Of bytes that begin with a whole request just its bytes are given, and all that follows stays.
pub record GivesWhole (reaches : List ℕ → Extent → Type 0) (bytes given kept : List ℕ) : Type 0 where
  pub size : ℕ
  pub told : reaches bytes (Whole size)
  pub within : size ≤ length bytes
  pub front : given ≡ take size bytes
  pub rest : kept ≡ drop size bytes

-- Of what is refused all is given.
pub record GivesRefused (reaches : List ℕ → Extent → Type 0) (bytes given kept : List ℕ) : Type 0 where
  pub told : reaches bytes Refused
  pub all : given ≡ bytes
  pub none : kept ≡ []

-- What is given is one whole request: the front of bytes of which the framing told that they begin with it.
pub record IsWhole (reaches : List ℕ → Extent → Type 0) (given : List ℕ) : Type 0 where
  pub bytes : List ℕ
  pub size : ℕ
  pub told : reaches bytes (Whole size)
  pub within : size ≤ length bytes
  pub front : given ≡ take size bytes

-- what a door may give: one whole request, or what the framing told to be refused
abbrev pub IsRequest : (List ℕ → Extent → Type 0) → List ℕ → Type 0
IsRequest reaches given = ∥ IsWhole reaches given ⊎ reaches given Refused ∥₁

-- What comes of bytes: a whole request is given, or what is refused, or all stay. Where memory is wanting the socket is let go.
abbrev pub Comes : (List ℕ → Extent → Type 0) → List ℕ → Came → List ℕ → Type 0
Comes reaches bytes (came.Request given) kept = GivesWhole reaches bytes given kept
Comes reaches bytes (came.Refused given) kept = GivesRefused reaches bytes given kept
Comes reaches bytes came.More kept = kept ≡ bytes
Comes reaches bytes came.NoMemory kept = Unit {0}

-- a piece is kept behind what was there
abbrev pub IsKept : Came → List ℕ → List ℕ → List ℕ → Type 0
IsKept (came.Request given) old piece new = ⊥
IsKept (came.Refused given) old piece new = ⊥
IsKept came.More old piece new = new ≡ old ++ piece
IsKept came.NoMemory old piece new = Unit {0}
