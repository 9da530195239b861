-- That the extent of bytes agrees with what they begin with.
use Rattle.std.proofs.Common.{◌≡◌, ◌∙◌, ◌++◌, ◌+◌, ◌<◌, ◌≤◌, List, ℕ, Ok, Err, length, ap, sym, subst, arith, length-append, inl, inr, refl}
use Rattle.httparse.specs.Grammar.{RequestHead, print_request}
use Rattle.httparse.proofs.GrammarLemmas.{request_unique}
use Rattle.http_heads.specs.declared.request.Request.{Request}
use Rattle.http_heads.specs.declared.parsed.Parsed.{Parsed}
use Rattle.http_heads.specs.declared.parsed.Parsed.TheVariants as parsed
use Rattle.http_heads.specs.declared.extent.Extent.{Extent}
use Rattle.http_heads.specs.declared.extent.Extent.TheVariants.{Whole, Head, Body, Refused}
use Rattle.http_heads.specs.Framing.{judged}
use Rattle.http_heads.specs.Parses.{HasHead, Parses}
use Rattle.http_heads.specs.Found.{AtHead}
use Rattle.http_heads.specs.Extents.{ReachesAt, HasExtent, Shows, Agrees, Bounds, IsLeast, Reaches}
use Rattle.http_heads.proofs.Laws.{err_not_ok, ok_once, holds_or_lacks, has_more, parses_once, whole_takes}
use Rattle.http_heads.proofs.Heads.{at_head_parses}
use Rattle.http_heads.proofs.Total.{at_head, parses_some}

-- with one head and what follows it
at_head_agrees : (h : RequestHead) (after : List ℕ) (e : Extent) (p : Parsed) → ReachesAt h after e → AtHead h after p → Agrees e p
at_head_agrees h after (Whole n) (parsed.Whole r m) at a = at.size_is ∙ ap (λ (k : ℕ). length (print_request h) + k) (ok_once (judged h) at.wanted (length r.body) at.served a.served) ∙ sym a.size_is
at_head_agrees h after (Whole n) parsed.More at a = absurd (omega (arith, ok_once (judged h) at.wanted a.wanted at.served a.served, at.there, a.short))
at_head_agrees h after (Whole n) (parsed.Refused c) at a = absurd (err_not_ok (judged h) c at.wanted a at.served)
at_head_agrees h after Head p at a = elim at [ ]
at_head_agrees h after (Body n) (parsed.Whole r m) at a = absurd (holds_or_lacks h after r m a (record { wanted = at.wanted; served = at.served; short = at.short }))
at_head_agrees h after (Body n) parsed.More at a = tt
at_head_agrees h after (Body n) (parsed.Refused c) at a = absurd (err_not_ok (judged h) c at.wanted a at.served)
at_head_agrees h after Refused (parsed.Whole r m) at a = absurd (err_not_ok (judged h) at.code (length r.body) at.refused a.served)
at_head_agrees h after Refused parsed.More at a = absurd (err_not_ok (judged h) at.code a.wanted at.refused a.served)
at_head_agrees h after Refused (parsed.Refused c) at a = tt

-- with one thing that the bytes begin with, with each
agrees_with : (bytes : List ℕ) (e : Extent) (p : Parsed) → Parses bytes p → Agrees e p → (q : Parsed) → Parses bytes q → Agrees e q
agrees_with bytes e p parses agrees q parses' = subst (λ (r : Parsed). Agrees e r) (parses_once bytes p q parses parses') agrees

has_agrees : (bytes : List ℕ) (e : Extent) → HasExtent bytes e → (q : Parsed) → Parses bytes q → Agrees e q
has_agrees bytes e has =
    let (p, at) = at_head has.head has.after in
    agrees_with bytes e p (at_head_parses bytes has.head has.after p has.has at) (at_head_agrees has.head has.after e p has.reaches at)

shows_agrees : (bytes : List ℕ) (e : Extent) → Shows bytes e → (q : Parsed) → Parses bytes q → Agrees e q
shows_agrees bytes (Whole n) s = has_agrees bytes (Whole n) s
shows_agrees bytes Head s = agrees_with bytes Head parsed.More (inl s) tt
shows_agrees bytes (Body n) s = has_agrees bytes (Body n) s
shows_agrees bytes Refused s = elim s [
  | inl large ↦ agrees_with bytes Refused (parsed.Refused 431) (inl (refl, large)) tt
  | inr (inl none) ↦ agrees_with bytes Refused (parsed.Refused 400) (inr (inl (refl, none))) tt
  | inr (inr has) ↦ has_agrees bytes Refused has
]

-- a whole request has some of the bytes
within : (bytes : List ℕ) (n : ℕ) (p : Parsed) → Parses bytes p → Agrees (Whole n) p → (0 < n) × (n ≤ length bytes)
within bytes n (parsed.Whole r m) parses is =
    let takes = whole_takes bytes r m parses in
    let some = takes.some in
    let all = takes.within in
    (omega (arith, is), omega (arith, is))
within bytes n parsed.More parses is = elim is [ ]
within bytes n (parsed.Refused c) parses is = elim is [ ]

-- no whole request that the bytes may become is smaller
least : (bytes : List ℕ) (n : ℕ) → HasExtent bytes (Body n) → IsLeast bytes n
least bytes n has more r m whole =
    let longer = has_more bytes more has.head has.after has.has in
    let same : (has.head ≡ whole.head) × (has.after ++ more ≡ r.body ++ whole.after) = request_unique (bytes ++ more) has.head whole.head (has.after ++ more) (r.body ++ whole.after) longer.reads whole.has.reads in
    let served : judged has.head ≡ Ok (length r.body) = ap judged same.0 ∙ whole.served in
    let size : length (print_request has.head) ≡ length (print_request whole.head) = ap (λ (h : RequestHead). length (print_request h)) same.0 in
    omega (arith, ok_once (judged has.head) has.reaches.wanted (length r.body) has.reaches.served served, size, whole.size_is, has.reaches.size_fits)

bounds : (bytes : List ℕ) (e : Extent) → Shows bytes e → ((q : Parsed) → Parses bytes q → Agrees e q) → Bounds bytes e
bounds bytes (Whole n) s agrees =
    let (p, parses) = parses_some bytes in
    within bytes n p parses (agrees p parses)
bounds bytes Head s agrees = tt
bounds bytes (Body n) s agrees = least bytes n s
bounds bytes Refused s agrees = tt

-- what is found says how far the bytes reach
pub reaches : (bytes : List ℕ) (e : Extent) → Shows bytes e → Reaches bytes e
reaches bytes e s =
    let agrees = shows_agrees bytes e s in
    record { agrees = agrees; bounds = bounds bytes e s agrees }
