-- From what is found in the first bytes to what the bytes begin with.
use Rattle.std.proofs.Common.{◌≡◌, ◌∙◌, ◌++◌, ◌+◌, ◌≤◌, List, ℕ, take, drop, length, ap, sym, subst, arith, length-append, append_assoc, inr}
use Rattle.std.proofs.lemmas.List.{take-append-drop, drop-append-le, length-take}
use Rattle.httparse.specs.declared.spans.HeaderSpan.{HeaderSpan}
use Rattle.httparse.specs.declared.spans.RequestSpans.{RequestSpans}
use Rattle.httparse.specs.Grammar.{RequestHead, print_request}
use Rattle.httparse.specs.Spans.{IsHeaderWithin, IsRequestWithin, IsRequestAt}
use Rattle.http_heads.specs.declared.parsed.Parsed.{Parsed}
use Rattle.http_heads.specs.declared.parsed.Parsed.TheVariants.{Whole, More, Refused}
use Rattle.http_heads.specs.Framing.{head_limit}
use Rattle.http_heads.specs.Lines.{AreWithin, IsPartsOf}
use Rattle.http_heads.specs.Found.{AtHead}
use Rattle.http_heads.specs.Parses.{HasHead, Parses}
use Rattle.http_heads.specs.declared.extent.Extent.{Extent}
use Rattle.http_heads.specs.declared.extent.Extent.TheVariants as extent
use Rattle.http_heads.specs.Extents.{ReachesAt, Shows}

-- what a whole head makes of the bytes after it is what the bytes begin with
pub at_head_parses : (bytes : List ℕ) (h : RequestHead) (after : List ℕ) (p : Parsed) → HasHead bytes h after → AtHead h after p → Parses bytes p
at_head_parses bytes h after (Whole r n) has a = record {
  head = h;
  after = a.rest;
  has = subst (λ (l : List ℕ). HasHead bytes h l) a.body has;
  served = a.served;
  is = a.is;
  size_is = a.size_is;
}
at_head_parses bytes h after More has b = inr (record { head = h; after = after; has = has; wanted = b.wanted; served = b.served; short = b.short })
at_head_parses bytes h after (Refused c) has e = inr (inr (record { head = h; after = after; has = has; refused = e }))

-- a head that stands in the first bytes stands in the bytes
pub has_head : (bytes window : List ℕ) (spans : List HeaderSpan) (s : RequestSpans) (h : RequestHead)
    → window ≡ take head_limit bytes → IsRequestAt window spans s h → HasHead bytes h (drop s.len bytes)
has_head bytes window spans s h is at =
    let rest = drop head_limit bytes in
    let whole : bytes ≡ window ++ rest = sym (take-append-drop head_limit bytes) ∙ ap (λ (l : List ℕ). l ++ rest) (sym is) in
    let long : length window ≡ length (print_request h) + length (drop s.len window) =
    ap length at.reads.1 ∙ length-append (print_request h) (drop s.len window) in
    let len = at.len in
    let after : drop s.len bytes ≡ drop s.len window ++ rest =
    ap (λ (l : List ℕ). drop s.len l) whole ∙ drop-append-le s.len window rest (omega arith) in
    let limit : length window ≤ head_limit = omega (arith, ap length is, length-take head_limit bytes) in
    record {
      reads = (
        at.reads.0,
        whole ∙ ap (λ (l : List ℕ). l ++ rest) at.reads.1 ∙ append_assoc (print_request h) (drop s.len window) rest ∙ ap (λ (l : List ℕ). print_request h ++ l) (sym after),
      );
      fits = omega arith;
    }

-- the spans of the fields cover the parts of the head
pub parts_at : (window : List ℕ) (spans : List HeaderSpan) (s : RequestSpans) (h : RequestHead)
    → IsRequestAt window spans s h → IsPartsOf window (take s.headers spans) s h
parts_at window spans s h at = record { method = at.method; target = at.path; minor = at.version; fields = at.fields }

wider : (n m : ℕ) (h : HeaderSpan) → n ≤ m → IsHeaderWithin n h → IsHeaderWithin m h
wider n m h le is = ((is.0.0, omega (arith, is.0.1, le)), (is.1.0, omega (arith, is.1.1, le)))

-- they lie in the first bytes
pub rows_within : (window : List ℕ) (spans : List HeaderSpan) (s : RequestSpans) → IsRequestWithin window spans s → AreWithin window (take s.headers spans)
rows_within window spans s within = λ i d inside. wider s.len (length window) _ within.section.len_fits (within.section.headers_fit i d inside)

-- how far a whole head reaches with the bytes after it is how far the bytes reach
pub at_head_shows : (bytes : List ℕ) (h : RequestHead) (after : List ℕ) (e : Extent) → HasHead bytes h after → ReachesAt h after e → Shows bytes e
at_head_shows bytes h after (extent.Whole n) has at = record { head = h; after = after; has = has; reaches = at }
at_head_shows bytes h after (extent.Body n) has at = record { head = h; after = after; has = has; reaches = at }
at_head_shows bytes h after extent.Head has at = elim at [ ]
at_head_shows bytes h after extent.Refused has at = inr (inr (record { head = h; after = after; has = has; reaches = at }))
