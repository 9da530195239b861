-- The laws of what bytes begin with, and of the requests of a text.
use Rattle.std.specs.Prelude.{ℕ, List, ◌++◌, ◌≡◌, ◌<◌, ◌≤◌, ◌+◌, length, true}
use Rattle.std.specs.Str.{bytes_eq}
use Rattle.http_heads.specs.declared.request.Request.{Request}
use Rattle.http_heads.specs.declared.parsed.Parsed.{Parsed}
use Rattle.http_heads.specs.declared.parsed.Parsed.TheVariants.{Whole, More, Refused}
use Rattle.http_heads.specs.Framing.{head_limit, body_limit}
use Rattle.http_heads.specs.Head.{get}
use Rattle.http_heads.specs.Parses.{Parses}
use Rattle.http_heads.specs.Requests.{End, Reads}

-- a whole request stays one, whatever follows
abbrev pub WholeStays : Type 0
WholeStays =
    (bytes more : List ℕ) (request : Request) (size : ℕ)
    → Parses bytes (Whole request size) → Parses (bytes ++ more) (Whole request size)

-- what is refused stays so, whatever follows
abbrev pub RefusedStays : Type 0
RefusedStays =
    (bytes more : List ℕ) (code : ℕ) → Parses bytes (Refused code) → Parses (bytes ++ more) (Refused code)

-- a whole request takes some of the bytes, and no more than there are
pub record Takes (bytes : List ℕ) (size : ℕ) : Type 0 where
  pub some : 0 < size
  pub within : size ≤ length bytes

abbrev pub WholeTakes : Type 0
WholeTakes =
    (bytes : List ℕ) (request : Request) (size : ℕ) → Parses bytes (Whole request size) → Takes bytes size

-- as many bytes as a head and a body may have are never only a part of a request
unfoldable pub pending_limit : ℕ
pending_limit = head_limit + body_limit

abbrev pub MoreIsShort : Type 0
MoreIsShort = (bytes : List ℕ) → Parses bytes More → length bytes < pending_limit

-- bytes begin with one thing only
abbrev pub ParsesOnce : Type 0
ParsesOnce = (bytes : List ℕ) (p q : Parsed) → Parses bytes p → Parses bytes q → p ≡ q

-- two readings of a text are one
pub record SameReading (requests others : List Request) (end last : End) : Type 0 where
  pub same_requests : requests ≡ others
  pub same_end : end ≡ last

abbrev pub ReadsOnce : Type 0
ReadsOnce =
    (k : ℕ) (bytes : List ℕ) (requests others : List Request) (end last : End)
    → Reads k bytes requests end → Reads k bytes others last → SameReading requests others end last

-- every text has a reading, whatever its limit
abbrev pub ReadsSome : Type 0
ReadsSome = (k : ℕ) (bytes : List ℕ) → (requests : List Request) × (end : End) × Reads k bytes requests end

-- whoever wants parts of a page late asks to read a page, and to close
pub record AsksLate (request : Request) : Type 0 where
  pub reads : bytes_eq request.method get ≡ true
  pub closes : request.closes ≡ true

abbrev pub LateCloses : Type 0
LateCloses =
    (bytes : List ℕ) (request : Request) (size : ℕ)
    → Parses bytes (Whole request size) → request.late ≡ true → AsksLate request
