-- How far what bytes begin with reaches, and that this agrees with what they begin with.
use Rattle.std.specs.Prelude.{ℕ, List, ◌≡◌, ◌<◌, ◌≤◌, ◌+◌, ◌++◌, ◌⊎◌, length, Ok, Err}
use Rattle.httparse.specs.Grammar.{RequestHead, print_request}
use Rattle.http_heads.specs.declared.request.Request.{Request}
use Rattle.http_heads.specs.declared.parsed.Parsed.{Parsed}
use Rattle.http_heads.specs.declared.parsed.Parsed.TheVariants as parsed
use Rattle.http_heads.specs.declared.extent.Extent.{Extent}
use Rattle.http_heads.specs.declared.extent.Extent.TheVariants.{Whole, Head, Body, Refused}
use Rattle.http_heads.specs.Framing.{judged}
use Rattle.http_heads.specs.Parses.{HasHead, IsHeadBegun, IsHeadTooLarge, IsNoHead, Parses}

-- ---- by the head that is found

-- a head and all of the body that it announces
pub record IsWholeAt (head : RequestHead) (after : List ℕ) (size : ℕ) : Type 0 where
  pub wanted : ℕ
  pub served : judged head ≡ Ok wanted
  pub there : wanted ≤ length after
  pub size_is : size ≡ length (print_request head) + wanted

-- a head and less than the body that it announces
pub record IsBodyAt (head : RequestHead) (after : List ℕ) (size : ℕ) : Type 0 where
  pub wanted : ℕ
  pub served : judged head ≡ Ok wanted
  pub short : length after < wanted
  pub size_fits : size ≤ length (print_request head) + wanted

-- a head that a code answers
pub record IsRefusedAt (head : RequestHead) : Type 0 where
  pub code : ℕ
  pub refused : judged head ≡ Err code

-- how far a whole head reaches with what follows it
abbrev pub ReachesAt : RequestHead → List ℕ → Extent → Type 0
ReachesAt head after (Whole size) = IsWholeAt head after size
ReachesAt head after (Body size) = IsBodyAt head after size
ReachesAt head after Refused = IsRefusedAt head
ReachesAt head after Head = ⊥

-- the bytes begin with a head that reaches so far
pub record HasExtent (bytes : List ℕ) (extent : Extent) : Type 0 where
  pub head : RequestHead
  pub after : List ℕ
  pub has : HasHead bytes head after
  pub reaches : ReachesAt head after extent

-- what was found in the bytes
abbrev pub Shows : List ℕ → Extent → Type 0
Shows bytes (Whole size) = HasExtent bytes (Whole size)
Shows bytes Head = IsHeadBegun bytes
Shows bytes (Body size) = HasExtent bytes (Body size)
Shows bytes Refused = IsHeadTooLarge bytes ⊎ (IsNoHead bytes ⊎ HasExtent bytes Refused)

-- ---- by what the bytes begin with

-- a whole request of that size, a part of one, or what is refused
abbrev pub Agrees : Extent → Parsed → Type 0
Agrees (Whole n) (parsed.Whole request size) = n ≡ size
Agrees (Whole n) parsed.More = ⊥
Agrees (Whole n) (parsed.Refused code) = ⊥
Agrees Head (parsed.Whole request size) = ⊥
Agrees Head parsed.More = Unit {0}
Agrees Head (parsed.Refused code) = ⊥
Agrees (Body n) (parsed.Whole request size) = ⊥
Agrees (Body n) parsed.More = Unit {0}
Agrees (Body n) (parsed.Refused code) = ⊥
Agrees Refused (parsed.Whole request size) = ⊥
Agrees Refused parsed.More = ⊥
Agrees Refused (parsed.Refused code) = Unit {0}

-- no whole request that the bytes may become is smaller
abbrev pub IsLeast : List ℕ → ℕ → Type 0
IsLeast bytes n = (more : List ℕ) (request : Request) (size : ℕ) → Parses (bytes ++ more) (parsed.Whole request size) → n ≤ size

-- a whole request has some of the bytes; a part says no more than what is wanted
abbrev pub Bounds : List ℕ → Extent → Type 0
Bounds bytes (Whole n) = (0 < n) × (n ≤ length bytes)
Bounds bytes Head = Unit {0}
Bounds bytes (Body n) = IsLeast bytes n
Bounds bytes Refused = Unit {0}

-- How far bytes reach: it agrees with the one thing that they begin with.
pub record Reaches (bytes : List ℕ) (extent : Extent) : Type 0 where
  pub agrees : (p : Parsed) → Parses bytes p → Agrees extent p
  pub bounds : Bounds bytes extent
