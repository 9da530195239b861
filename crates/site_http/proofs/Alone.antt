-- A whole request is one by its own bytes.
use Rattle.std.proofs.Common.{◌≡◌, ◌∙◌, ◌++◌, List, ℕ, take, drop, length, ap, sym, subst, append_assoc, length-append, false}
use Rattle.std.proofs.lemmas.List.{take_at, take-append-drop}
use Rattle.httparse.specs.Grammar.{print_request}
use Rattle.http_heads.specs.declared.request.Request.{Request}
use Rattle.http_heads.specs.declared.parsed.Parsed.TheVariants.{Whole}
use Rattle.http_heads.specs.Parses.{Parses}
use Rattle.site_http.specs.Known.{IsAlone, IsPlain}

pub alone_of : (bytes front : List ℕ) (request : Request) (size : ℕ) → front ≡ take size bytes → Parses bytes (Whole request size) → IsAlone front request
alone_of bytes front request size same whole more =
    let head = print_request whole.head in
    let all : bytes ≡ (head ++ request.body) ++ whole.after = whole.has.reads.1 ∙ sym (append_assoc head request.body whole.after) in
    let long : length (head ++ request.body) ≡ size = length-append head request.body ∙ sym whole.size_is in
    let is : front ≡ head ++ request.body = same ∙ ap (take size) all ∙ take_at (head ++ request.body) whole.after size long in
    record {
      head = whole.head;
      after = more;
      has = record { reads = (whole.has.reads.0, ap (λ (l : List ℕ). l ++ more) is ∙ append_assoc head request.body more); fits = whole.has.fits };
      served = whole.served;
      is = whole.is;
      size_is = ap length is ∙ length-append head request.body;
    }

pub plain_of : (bytes front : List ℕ) (request : Request) (size : ℕ) → request.closes ≡ false → front ≡ take size bytes → Parses bytes (Whole request size) → IsPlain front request
plain_of bytes front request size goes_on same whole = record { alone = alone_of bytes front request size same whole; goes_on = goes_on }

-- bytes that begin with a request hold it first
pub begun_with : (front bytes : List ℕ) (request : Request) → IsAlone front request → take (length front) bytes ≡ front → Parses bytes (Whole request (length front))
begun_with front bytes request alone begins =
    subst (λ (l : List ℕ). Parses l (Whole request (length front)))
    (ap (λ (l : List ℕ). l ++ drop (length front) bytes) (sym begins) ∙ take-append-drop (length front) bytes)
    (alone (drop (length front) bytes))
