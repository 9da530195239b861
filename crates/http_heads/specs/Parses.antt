-- What the bytes of a connection begin with (RFC 9112, sections 2.1, 2.2, 3 and 6.3).
use Rattle.std.specs.Prelude.{ℕ, List, ◌≡◌, ◌<◌, ◌≤◌, ◌+◌, ◌++◌, ◌⊎◌, length, take, Ok, Err}
use Rattle.httparse.specs.Grammar.{RequestHead, print_request, ReadsRequest, HasNoRequest, NeverHasRequest, MayBecomeRequest, EndsInTarget}
use Rattle.http_heads.specs.declared.request.Request.{Request}
use Rattle.http_heads.specs.declared.parsed.Parsed.{Parsed}
use Rattle.http_heads.specs.declared.parsed.Parsed.TheVariants.{Whole, More, Refused}
use Rattle.http_heads.specs.Framing.{head_limit, judged}
use Rattle.http_heads.specs.Head.{IsRequestOf}

-- the bytes begin with a head within its limit, and then come these
pub record HasHead (bytes : List ℕ) (head : RequestHead) (after : List ℕ) : Type 0 where
  pub reads : ReadsRequest bytes head after
  pub fits : length (print_request head) ≤ head_limit

-- a whole request of so many bytes, head and body
pub record IsWhole (bytes : List ℕ) (request : Request) (size : ℕ) : Type 0 where
  pub head : RequestHead
  pub after : List ℕ
  pub has : HasHead bytes head (request.body ++ after)
  pub served : judged head ≡ Ok (length request.body)
  pub is : IsRequestOf head request
  pub size_is : size ≡ length (print_request head) + length request.body

-- the beginning of a head, below its limit; bytes that end inside a target count as one
pub record IsHeadBegun (bytes : List ℕ) : Type 0 where
  pub no_head : HasNoRequest bytes
  pub begun : MayBecomeRequest bytes
  pub short : length bytes < head_limit

-- a whole head, and less than the body that it announces
pub record IsBodyBegun (bytes : List ℕ) : Type 0 where
  pub head : RequestHead
  pub after : List ℕ
  pub has : HasHead bytes head after
  pub wanted : ℕ
  pub served : judged head ≡ Ok wanted
  pub short : length after < wanted

-- as many bytes as a head may have, which begin a head and hold no whole one
pub record IsHeadTooLarge (bytes : List ℕ) : Type 0 where
  pub long : head_limit ≤ length bytes
  pub no_head : HasNoRequest (take head_limit bytes)
  pub begun : MayBecomeRequest (take head_limit bytes)

-- bytes of which no continuation makes a head, and which don't end inside a target
pub record IsNoHead (bytes : List ℕ) : Type 0 where
  pub never : NeverHasRequest (take head_limit bytes)
  pub not_in_target : ¬ (EndsInTarget (take head_limit bytes))

-- a whole head that is answered with this code
pub record IsHeadRefused (bytes : List ℕ) (code : ℕ) : Type 0 where
  pub head : RequestHead
  pub after : List ℕ
  pub has : HasHead bytes head after
  pub refused : judged head ≡ Err code

-- What bytes begin with: a whole request and its length; a part of one; or what is answered with
-- a code, 431 for a head too large, 400 for no head, or the code of a whole head.
abbrev pub Parses : List ℕ → Parsed → Type 0
Parses bytes (Whole request size) = IsWhole bytes request size
Parses bytes More = IsHeadBegun bytes ⊎ IsBodyBegun bytes
Parses bytes (Refused code) =
    ((code ≡ 431) × IsHeadTooLarge bytes) ⊎ (((code ≡ 400) × IsNoHead bytes) ⊎ IsHeadRefused bytes code)
