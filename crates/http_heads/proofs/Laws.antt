-- The laws of what bytes begin with, and of the requests of a text.
use Rattle.std.proofs.Common.{◌≡◌, ◌∙◌, ◌++◌, ◌+◌, ◌-◌, ◌<◌, ◌≤◌, ◌⊎◌, List, [], ◌∷◌, ℕ, zero, suc, Bool, true, false, Option, Some, None, Result, Ok, Err, nat_lt, if◌then◌else◌, take, drop, length, ap, sym, refl, subst, arith, length-append, append_assoc, inl, inr}
use Rattle.std.specs.Prelude.{◌==◌, ◌&&◌, ◌||◌}
use Rattle.std.specs.Str.{bytes_eq}
use Rattle.std.proofs.lemmas.List.{take-append-le, drop-append-le, take_all, append-nil}
use Rattle.std.proofs.Math.Seq.{take-append-add, take-append_seam}
use Rattle.std.proofs.lemmas.Bool.{cases_lt, ltb-false}
use Rattle.httparse.specs.Grammar.{RequestHead, print_request, ReadsRequest, HasNoRequest, NeverHasRequest, MayBecomeRequest, EndsInTarget}
use Rattle.httparse.proofs.GrammarLemmas.{request_unique, ReadsRequest-append}
use Rattle.http_heads.specs.declared.request.Request.{Request}
use Rattle.http_heads.specs.declared.parsed.Parsed.{Parsed}
use Rattle.http_heads.specs.declared.parsed.Parsed.TheVariants.{Whole, More, Refused}
use Rattle.http_heads.specs.Fields.{fields_of, stands, transfer_encoding, asks_close, asks_late}
use Rattle.http_heads.specs.Cookies.{token_of, NamesSession}
use Rattle.http_heads.specs.Framing.{head_limit, field_limit, body_limit, body_length, begins_slash, sized, judged}
use Rattle.http_heads.specs.Head.{IsRequestOf, get, late_by}
use Rattle.http_heads.specs.Parses.{HasHead, IsHeadBegun, IsHeadTooLarge, IsNoHead, IsHeadRefused, Parses}
use Rattle.http_heads.specs.Found.{Holds, Lacks, AtHead}
use Rattle.http_heads.specs.Requests.{End, Asks, Code, ending, ReadsAfter, ReadsOn, Reads}
use Rattle.http_heads.specs.Laws.{Takes, pending_limit, SameReading, AsksLate}
use Rattle.http_heads.proofs.Room.{head_length}
use Rattle.http_heads.proofs.Begins.{not_in_target_more, never_more}

-- ---- whatever follows

pub has_more : (xs m : List ℕ) (h : RequestHead) (after : List ℕ) → HasHead xs h after → HasHead (xs ++ m) h (after ++ m)
has_more xs m h after has = record { reads = ReadsRequest-append xs h after m has.reads; fits = has.fits }

-- a whole request stays one, whatever follows
pub whole_stays : (bytes more : List ℕ) (request : Request) (size : ℕ) → Parses bytes (Whole request size) → Parses (bytes ++ more) (Whole request size)
whole_stays bytes more request size w = record {
  head = w.head;
  after = w.after ++ more;
  has =
      subst (λ (l : List ℕ). HasHead (bytes ++ more) w.head l) (append_assoc request.body w.after more)
      (has_more bytes more w.head (request.body ++ w.after) w.has);
  served = w.served;
  is = w.is;
  size_is = w.size_is;
}

-- the first bytes of more bytes are the first bytes, and some more
pub record Longer (n : ℕ) (xs m : List ℕ) : Type 0 where
  pub more : List ℕ
  pub same : take n (xs ++ m) ≡ take n xs ++ more

longer : (n : ℕ) (xs m : List ℕ) → Longer n xs m
longer n xs m = elim (cases_lt (length xs) n) [
  | inl short ↦
      let k = n - length xs in
      let whole : n ≡ length xs + k = omega arith in
      record {
        more = take k m;
        same = ap (λ (i : ℕ). take i (xs ++ m)) whole ∙ take-append-add xs m k ∙ ap (λ (a : List ℕ). a ++ take k m) (sym (take_all n xs (omega arith)));
      }
  | inr long ↦ record { more = []; same = take-append-le n xs m long ∙ sym (append-nil (take n xs)) }
]

no_head_stays : (bytes more : List ℕ) → IsNoHead bytes → IsNoHead (bytes ++ more)
no_head_stays bytes more n =
    let l : Longer head_limit bytes more = longer head_limit bytes more in
    record {
      never = subst NeverHasRequest (sym l.same) (never_more (take head_limit bytes) l.more n.never);
      not_in_target = subst (λ (w : List ℕ). ¬ (EndsInTarget w)) (sym l.same) (not_in_target_more (take head_limit bytes) l.more n.never n.not_in_target);
    }

too_large_stays : (bytes more : List ℕ) → IsHeadTooLarge bytes → IsHeadTooLarge (bytes ++ more)
too_large_stays bytes more t =
    let same : take head_limit bytes ≡ take head_limit (bytes ++ more) = sym (take-append-le head_limit bytes more t.long) in
    record {
      long = omega (arith, length-append bytes more, t.long);
      no_head = subst HasNoRequest same t.no_head;
      begun = subst MayBecomeRequest same t.begun;
    }

head_refused_stays : (bytes more : List ℕ) (code : ℕ) → IsHeadRefused bytes code → IsHeadRefused (bytes ++ more) code
head_refused_stays bytes more code r = record {
  head = r.head;
  after = r.after ++ more;
  has = has_more bytes more r.head r.after r.has;
  refused = r.refused;
}

-- what is refused stays so, whatever follows
pub refused_stays : (bytes more : List ℕ) (code : ℕ) → Parses bytes (Refused code) → Parses (bytes ++ more) (Refused code)
refused_stays bytes more code r = elim r [
  | inl large ↦ inl (large.0, too_large_stays bytes more large.1)
  | inr (inl none) ↦ inr (inl (none.0, no_head_stays bytes more none.1))
  | inr (inr head) ↦ inr (inr (head_refused_stays bytes more code head))
]

-- ---- lengths

-- a whole request takes some of the bytes, and no more than there are
pub whole_takes : (bytes : List ℕ) (request : Request) (size : ℕ) → Parses bytes (Whole request size) → Takes bytes size
whole_takes bytes request size w =
    let long = head_length w.head w.has.reads.0 in
    let all = ap length w.has.reads.1 in
    let size_is = w.size_is in
    record {
      some = omega arith;
      within = omega (arith, length-append (print_request w.head) (request.body ++ w.after), length-append request.body w.after);
    }

pub err_not_ok : (r : Result ℕ ℕ) (c n : ℕ) → r ≡ Err c → r ≡ Ok n → ⊥
err_not_ok r c n e f = cc

pub ok_once : (r : Result ℕ ℕ) (k n : ℕ) → r ≡ Ok k → r ≡ Ok n → k ≡ n
ok_once r k n e f = cc

abbrev pick : Bool → Result ℕ ℕ → Result ℕ ℕ → Result ℕ ℕ
pick b r s = if b then r else s

sized_within : (given : Option ℕ) (target : List ℕ) (n : ℕ) → sized given target ≡ Ok n → n ≤ body_limit
sized_within None target n = λ e. absurd (err_not_ok (Err 400) 400 n refl e)
sized_within (Some k) target n =
    elim (nat_lt body_limit k) as (λ b. nat_lt body_limit k ≡ b → pick b (Err 413) (pick (begins_slash target) (Ok k) (Err 400)) ≡ Ok n → n ≤ body_limit) [
      | true ↦ λ _ e. absurd (err_not_ok (Err 413) 413 n refl e)
      | false ↦ λ small. elim (begins_slash target) as (λ b. pick b (Ok k) (Err 400) ≡ Ok n → n ≤ body_limit) [
        | true ↦ λ e. let same : k ≡ n = ok_once (Ok k) k n refl e in omega (arith, ltb-false body_limit k small)
        | false ↦ λ e. absurd (err_not_ok (Err 400) 400 n refl e)
      ]
    ] refl

judged_within : (h : RequestHead) (n : ℕ) → judged h ≡ Ok n → n ≤ body_limit
judged_within h n =
    elim (nat_lt field_limit (length (fields_of h))) as (λ b. pick b (Err 431) (pick (stands transfer_encoding (fields_of h)) (Err 501) (sized (body_length (fields_of h)) h.target)) ≡ Ok n → n ≤ body_limit) [
      | true ↦ λ e. absurd (err_not_ok (Err 431) 431 n refl e)
      | false ↦ elim (stands transfer_encoding (fields_of h)) as (λ b. pick b (Err 501) (sized (body_length (fields_of h)) h.target) ≡ Ok n → n ≤ body_limit) [
        | true ↦ λ e. absurd (err_not_ok (Err 501) 501 n refl e)
        | false ↦ λ e. sized_within (body_length (fields_of h)) h.target n e
      ]
    ]

-- as many bytes as a head and a body may have are never only a part of a request
pub more_is_short : (bytes : List ℕ) → Parses bytes More → length bytes < pending_limit
unfolding pending_limit
more_is_short bytes m = elim m [
  | inl begun ↦ omega (arith, begun.short)
  | inr body ↦
      let all = ap length body.has.reads.1 in
      omega (arith, body.has.fits, body.short, judged_within body.head body.wanted body.served, length-append (print_request body.head) body.after)
]

-- ---- one thing only

names_once : (token s t : Option (List ℕ)) → NamesSession token s → NamesSession token t → s ≡ t
names_once None s t a b = a ∙ sym b
names_once (Some token) None None a b = refl
names_once (Some token) None (Some t) a b = absurd (a b.0)
names_once (Some token) (Some s) None a b = absurd (b a.0)
names_once (Some token) (Some s) (Some t) a b = ap Some (a.1 ∙ sym b.1)

request_once : (h : RequestHead) (r q : Request) → IsRequestOf h r → IsRequestOf h q → r.body ≡ q.body → r ≡ q
request_once h r q a b body = λ i. record {
  method = (a.method ∙ sym b.method) i;
  target = (a.target ∙ sym b.target) i;
  path = (a.path ∙ sym b.path) i;
  query = (a.query ∙ sym b.query) i;
  version = (a.version ∙ sym b.version) i;
  closes = (a.closes ∙ sym b.closes) i;
  late = (a.late ∙ sym b.late) i;
  content_type = (a.content_type ∙ sym b.content_type) i;
  csrf = (a.csrf ∙ sym b.csrf) i;
  session = names_once (token_of (fields_of h)) r.session q.session a.session b.session i;
  body = body i;
}

pub holds_or_lacks : (h : RequestHead) (after : List ℕ) (r : Request) (n : ℕ) → Holds h after r n → Lacks h after → ⊥
holds_or_lacks h after r n a b =
    let len : length r.body ≡ b.wanted = ok_once (judged h) (length r.body) b.wanted a.served b.served in
    absurd (omega (arith, ap length a.body, length-append r.body a.rest, b.short, len))

err_once : (r : Result ℕ ℕ) (c d : ℕ) → r ≡ Err c → r ≡ Err d → c ≡ d
err_once r c d e f = cc

same_front : (a b c d : List ℕ) → a ++ b ≡ c ++ d → length a ≡ length c → a ≡ c
same_front a b c d e len =
    sym (take-append_seam a b) ∙ ap (λ (l : List ℕ). take (length a) l) e ∙ ap (λ (n : ℕ). take n (c ++ d)) len ∙ take-append_seam c d

at_head_once : (h : RequestHead) (after : List ℕ) (p q : Parsed) → AtHead h after p → AtHead h after q → p ≡ q
at_head_once h after (Whole r n) (Whole q m) a b =
    let len : length r.body ≡ length q.body = ok_once (judged h) (length r.body) (length q.body) a.served b.served in
    let body : r.body ≡ q.body = same_front r.body a.rest q.body b.rest (sym a.body ∙ b.body) len in
    let sizes : n ≡ m = a.size_is ∙ ap (λ (k : ℕ). length (print_request h) + k) len ∙ sym b.size_is in
    λ i. Whole (request_once h r q a.is b.is body i) (sizes i)
at_head_once h after (Whole r n) More a b = absurd (holds_or_lacks h after r n a b)
at_head_once h after (Whole r n) (Refused c) a e = absurd (err_not_ok (judged h) c (length r.body) e a.served)
at_head_once h after More (Whole r n) b a = absurd (holds_or_lacks h after r n a b)
at_head_once h after More More a b = refl
at_head_once h after More (Refused c) b e = absurd (err_not_ok (judged h) c b.wanted e b.served)
at_head_once h after (Refused c) (Whole r n) e a = absurd (err_not_ok (judged h) c (length r.body) e a.served)
at_head_once h after (Refused c) More e b = absurd (err_not_ok (judged h) c b.wanted e b.served)
at_head_once h after (Refused c) (Refused d) e f = ap Refused (err_once (judged h) c d e f)

-- a whole head, and what it makes of the rest
pub record WithHead (bytes : List ℕ) (p : Parsed) : Type 0 where
  pub head : RequestHead
  pub after : List ℕ
  pub has : HasHead bytes head after
  pub at : AtHead head after p

-- no whole head
abbrev NoHead : List ℕ → Parsed → Type 0
NoHead bytes p = ((p ≡ More) × IsHeadBegun bytes) ⊎ (((p ≡ Refused 431) × IsHeadTooLarge bytes) ⊎ ((p ≡ Refused 400) × IsNoHead bytes))

either : (bytes : List ℕ) (p : Parsed) → Parses bytes p → WithHead bytes p ⊎ NoHead bytes p
either bytes (Whole r n) w = inl (record { head = w.head; after = r.body ++ w.after; has = w.has; at = record { rest = w.after; body = refl; served = w.served; is = w.is; size_is = w.size_is } })
either bytes More m = elim m [
  | inl begun ↦ inr (inl (refl, begun))
  | inr b ↦ inl (record { head = b.head; after = b.after; has = b.has; at = record { wanted = b.wanted; served = b.served; short = b.short } })
]
either bytes (Refused c) r = elim r [
  | inl large ↦ inr (inr (inl (ap Refused large.0, large.1)))
  | inr (inl none) ↦ inr (inr (inr (ap Refused none.0, none.1)))
  | inr (inr b) ↦ inl (record { head = b.head; after = b.after; has = b.has; at = b.refused })
]

-- a head within the limit stands in the first bytes
windowed : (bytes : List ℕ) (h : RequestHead) (after : List ℕ) → HasHead bytes h after → ReadsRequest (take head_limit bytes) h (take (head_limit - length (print_request h)) after)
windowed bytes h after has =
    let k = head_limit - length (print_request h) in
    let fits = has.fits in
    let n : head_limit ≡ length (print_request h) + k = omega arith in
    (has.reads.0, ap (λ (l : List ℕ). take head_limit l) has.reads.1 ∙ ap (λ (i : ℕ). take i (print_request h ++ after)) n ∙ take-append-add (print_request h) after k)

begun_window : (bytes : List ℕ) → IsHeadBegun bytes → take head_limit bytes ≡ bytes
begun_window bytes b = let short = b.short in take_all head_limit bytes (omega arith)

-- bytes that may become a head are not such that no continuation makes one
may_not_never : (xs : List ℕ) → MayBecomeRequest xs → NeverHasRequest xs → ¬ (EndsInTarget xs) → ⊥
may_not_never xs may never not_in = elim may [
  | inl (more, h, reads) ↦ never more h [] reads
  | inr ends ↦ not_in ends
]

head_or_none : (bytes : List ℕ) (p q : Parsed) → WithHead bytes p → NoHead bytes q → ⊥
head_or_none bytes p q w n = elim n [
  | inl begun ↦ begun.1.no_head w.head w.after w.has.reads
  | inr (inl large) ↦ large.1.no_head w.head (take (head_limit - length (print_request w.head)) w.after) (windowed bytes w.head w.after w.has)
  | inr (inr none) ↦
      let rest = take (head_limit - length (print_request w.head)) w.after in
      none.1.never [] w.head (rest ++ []) (ReadsRequest-append (take head_limit bytes) w.head rest [] (windowed bytes w.head w.after w.has))
]

none_once : (bytes : List ℕ) (p q : Parsed) → NoHead bytes p → NoHead bytes q → p ≡ q
none_once bytes p q a b = elim a [
  | inl begun ↦ elim b [
    | inl begun' ↦ begun.0 ∙ sym begun'.0
    | inr (inl large) ↦ absurd (omega (arith, begun.1.short, large.1.long))
    | inr (inr none) ↦ absurd (begun_or_none bytes begun.1 none.1)
  ]
  | inr (inl large) ↦ elim b [
    | inl begun ↦ absurd (omega (arith, begun.1.short, large.1.long))
    | inr (inl large') ↦ large.0 ∙ sym large'.0
    | inr (inr none) ↦ absurd (may_not_never (take head_limit bytes) large.1.begun none.1.never none.1.not_in_target)
  ]
  | inr (inr none) ↦ elim b [
    | inl begun ↦ absurd (begun_or_none bytes begun.1 none.1)
    | inr (inl large) ↦ absurd (may_not_never (take head_limit bytes) large.1.begun none.1.never none.1.not_in_target)
    | inr (inr none') ↦ none.0 ∙ sym none'.0
  ]
]
  where
    begun_or_none : (bytes : List ℕ) → IsHeadBegun bytes → IsNoHead bytes → ⊥
    begun_or_none bytes b n = may_not_never (take head_limit bytes) (subst MayBecomeRequest (sym (begun_window bytes b)) b.begun) n.never n.not_in_target

-- bytes begin with one thing only
pub parses_once : (bytes : List ℕ) (p q : Parsed) → Parses bytes p → Parses bytes q → p ≡ q
parses_once bytes p q a b = elim (either bytes p a) [
  | inl w ↦ elim (either bytes q b) [
    | inl v ↦
        let same : (w.head ≡ v.head) × (w.after ≡ v.after) = request_unique bytes w.head v.head w.after v.after w.has.reads v.has.reads in
        at_head_once v.head v.after p q (subst (λ (h : RequestHead). AtHead h v.after p) same.0 (subst (λ (l : List ℕ). AtHead w.head l p) same.1 w.at)) v.at
    | inr n ↦ absurd (head_or_none bytes p q w n)
  ]
  | inr n ↦ elim (either bytes q b) [
    | inl w ↦ absurd (head_or_none bytes q p w n)
    | inr m ↦ none_once bytes p q n m
  ]
]

-- ---- readings

after_once : (closes : Bool) (Next : List Request → End → Type 0) (rs qs : List Request) (e f : End)
    → ((rs qs : List Request) (e f : End) → Next rs e → Next qs f → SameReading rs qs e f)
    → ReadsAfter closes Next rs e → ReadsAfter closes Next qs f → SameReading rs qs e f
after_once true Next rs qs e f once a b = record { same_requests = a.0 ∙ sym b.0; same_end = a.1 ∙ sym b.1 }
after_once false Next rs qs e f once a b = once rs qs e f a b

on_once : (Next : List ℕ → List Request → End → Type 0) (bytes : List ℕ) (p : Parsed) (rs qs : List Request) (e f : End)
    → ((bytes : List ℕ) (rs qs : List Request) (e f : End) → Next bytes rs e → Next bytes qs f → SameReading rs qs e f)
    → ReadsOn Next bytes p rs e → ReadsOn Next bytes p qs f → SameReading rs qs e f
on_once Next bytes (Whole r n) rs qs e f once (rest, is, on) (rest', is', on') =
    let same : SameReading rest rest' e f = after_once r.closes (Next (drop n bytes)) rest rest' e f (once (drop n bytes)) on on' in
    record { same_requests = is ∙ ap (λ (l : List Request). r ∷ l) same.same_requests ∙ sym is'; same_end = same.same_end }
on_once Next bytes More rs qs e f once a b = record { same_requests = a.0 ∙ sym b.0; same_end = a.1 ∙ sym b.1 }
on_once Next bytes (Refused c) rs qs e f once a b = record { same_requests = a.0 ∙ sym b.0; same_end = a.1 ∙ sym b.1 }

-- two readings of a text are one
pub reads_once : (k : ℕ) (bytes : List ℕ) (requests others : List Request) (end last : End) → Reads k bytes requests end → Reads k bytes others last → SameReading requests others end last
reads_once zero bytes rs qs e f a b = record { same_requests = a.0 ∙ sym b.0; same_end = a.1 ∙ sym b.1 }
reads_once (suc k) bytes rs qs e f (p, parses, on) (q, parses', on') =
    let same : p ≡ q = parses_once bytes p q parses parses' in
    on_once (Reads k) bytes q rs qs e f (reads_once k) (subst (λ (s : Parsed). ReadsOn (Reads k) bytes s rs e) same on) on'

-- ---- the steps of a reading, for bytes that come in pieces

-- after a request that doesn't ask to close, the rest is read
pub reads_next : (k : ℕ) (bytes more : List ℕ) (request : Request) (size : ℕ) (requests : List Request) (end : End)
    → Parses bytes (Whole request size) → request.closes ≡ false → Reads k (drop size bytes ++ more) requests end
    → Reads (suc k) (bytes ++ more) (request ∷ requests) end
reads_next k bytes more request size requests end parses open_still rest =
    let takes : Takes bytes size = whole_takes bytes request size parses in
    let rest' : Reads k (drop size (bytes ++ more)) requests end =
    subst (λ (l : List ℕ). Reads k l requests end) (sym (drop-append-le size bytes more takes.within)) rest in (
      Whole request size,
      whole_stays bytes more request size parses,
      (requests, refl, subst (λ (b : Bool). ReadsAfter b (Reads k (drop size (bytes ++ more))) requests end) (sym open_still) rest'),
    )

-- after a request that asks to close, nothing is read
pub reads_closing : (k : ℕ) (bytes more : List ℕ) (request : Request) (size : ℕ)
    → Parses bytes (Whole request size) → request.closes ≡ true
    → Reads (suc k) (bytes ++ more) (request ∷ []) Asks
reads_closing k bytes more request size parses closing = (
  Whole request size,
  whole_stays bytes more request size parses,
  ([], refl, subst (λ (b : Bool). ReadsAfter b (Reads k (drop size (bytes ++ more))) [] Asks) (sym closing) (refl, refl)),
)

-- what is refused ends the reading
pub reads_refused : (k : ℕ) (bytes more : List ℕ) (code : ℕ) → Parses bytes (Refused code) → Reads (suc k) (bytes ++ more) [] (Code code)
reads_refused k bytes more code parses = (Refused code, refused_stays bytes more code parses, (refl, refl))

-- a part of a request, or nothing, ends the reading where the bytes end
pub reads_part : (k : ℕ) (bytes : List ℕ) → Parses bytes More → Reads (suc k) bytes [] (ending bytes)
reads_part k bytes parses = (More, parses, (refl, refl))

-- ---- requests for pages whose parts are sent late

both_true : (a b : Bool) → (a && b) ≡ true → a ≡ true
both_true true b is = refl
both_true false b is = absurd (let no = is in cc)

last_true : (a b c : Bool) → c ≡ true → (a || (b || c)) ≡ true
last_true true b c is = refl
last_true false true c is = refl
last_true false false c is = is

pub late_closes : (bytes : List ℕ) (request : Request) (size : ℕ) → Parses bytes (Whole request size) → request.late ≡ true → AsksLate request
late_closes bytes request size whole late =
    let is_late : late_by whole.head.method (fields_of whole.head) ≡ true = sym whole.is.late ∙ late in
    record {
      reads = ap (λ m. bytes_eq m get) whole.is.method ∙ both_true (bytes_eq whole.head.method get) (asks_late (fields_of whole.head)) is_late;
      closes = whole.is.closes ∙ last_true (whole.head.minor == 0) (asks_close (fields_of whole.head)) (late_by whole.head.method (fields_of whole.head)) is_late;
    }
