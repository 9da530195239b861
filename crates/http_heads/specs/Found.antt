-- What the first bytes of a connection hold, and what a whole head makes of the bytes after it.
use Rattle.std.specs.Prelude.{ℕ, List, ◌≡◌, ◌<◌, ◌+◌, ◌++◌, length, Ok, Err}
use Rattle.httparse.specs.declared.spans.HeaderSpan.{HeaderSpan}
use Rattle.httparse.specs.Grammar.{RequestHead, print_request, HasNoRequest, NeverHasRequest, MayBecomeRequest, EndsInTarget}
use Rattle.httparse.specs.Spans.{IsRequestOf, IsRequestWithin}
use Rattle.http_heads.specs.declared.request.Request.{Request}
use Rattle.http_heads.specs.declared.parsed.Parsed.{Parsed}
use Rattle.http_heads.specs.declared.parsed.Parsed.TheVariants.{Whole, More, Refused}
use Rattle.http_heads.specs.declared.find.Found.{Found}
use Rattle.http_heads.specs.declared.find.Found.TheVariants as found
use Rattle.http_heads.specs.Framing.{judged}
use Rattle.http_heads.specs.Head as head_spec

-- a whole head, the beginning of one, or no head whatever follows
abbrev pub Finds : List ℕ → List HeaderSpan → Found → Type 0
Finds window spans (found.Head head) = IsRequestWithin window spans head × IsRequestOf window spans head
Finds window spans found.Begun = HasNoRequest window × MayBecomeRequest window
Finds window spans found.Nothing = NeverHasRequest window × (¬ (EndsInTarget window))

-- a request that the head and the bytes after it hold
pub record Holds (head : RequestHead) (after : List ℕ) (request : Request) (size : ℕ) : Type 0 where
  pub rest : List ℕ
  pub body : after ≡ request.body ++ rest
  pub served : judged head ≡ Ok (length request.body)
  pub is : head_spec.IsRequestOf head request
  pub size_is : size ≡ length (print_request head) + length request.body

-- less than the body that the head announces
pub record Lacks (head : RequestHead) (after : List ℕ) : Type 0 where
  pub wanted : ℕ
  pub served : judged head ≡ Ok wanted
  pub short : length after < wanted

-- what a whole head makes of the bytes after it
abbrev pub AtHead : RequestHead → List ℕ → Parsed → Type 0
AtHead head after (Whole request size) = Holds head after request size
AtHead head after More = Lacks head after
AtHead head after (Refused code) = judged head ≡ Err code
