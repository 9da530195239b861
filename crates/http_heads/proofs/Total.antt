-- Every list of bytes has a reading.
use Rattle.std.proofs.Common.{◌≡◌, ◌∙◌, ◌++◌, ◌+◌, ◌⊎◌, List, [], ◌∷◌, ℕ, zero, suc, Bool, true, false, Option, Some, None, Result, Ok, Err, nat_le, ◌&&◌, take, drop, length, ap, sym, refl, subst, arith, length-append, append-nil, inl, inr}
use Rattle.std.proofs.lemmas.List.{take_all, take-append-drop, length-take}
use Rattle.std.proofs.lemmas.Bool.{cases_lt, leb-true, le-leb}
use Rattle.std.proofs.lemmas.List.Sums.{AllPass-from_list_all, list_all-from_AllPass}
use Rattle.std.specs.List.{list_all}
use Rattle.cacheability.specs.Name.{is_name_byte, IsName}
use Rattle.httparse.specs.Grammar.{RequestHead, print_request, ReadsRequest, MayBecomeRequest, HasNoRequest}
use Rattle.httparse.proofs.GrammarLemmas.{ReadsRequest-append}
use Rattle.http_heads.specs.declared.request.Request.{Request}
use Rattle.http_heads.specs.declared.parsed.Parsed.{Parsed}
use Rattle.http_heads.specs.declared.parsed.Parsed.TheVariants.{Whole, More, Refused}
use Rattle.http_heads.specs.declared.in_target.Place.TheVariants as place
use Rattle.http_heads.specs.InTarget.{accepts}
use Rattle.http_heads.specs.Fields.{fields_of, first_value, content_type, csrf_token}
use Rattle.http_heads.specs.Cookies.{token_of, NamesSession}
use Rattle.http_heads.specs.Framing.{head_limit, judged}
use Rattle.http_heads.specs.Head.{version_of, closes_by, late_by}
use Rattle.http_heads.specs.Target.{path_of, query_of}
use Rattle.http_heads.specs.Found.{AtHead}
use Rattle.http_heads.specs.Parses.{HasHead, Parses}
use Rattle.http_heads.specs.Requests.{End, Asks, Limit, Code, ending, ReadsAfter, Reads}
use Rattle.http_heads.proofs.Fates.{yes_no, head_fate}
use Rattle.http_heads.proofs.Heads.{at_head_parses}
use Rattle.http_heads.proofs.Within.{ends, accepted, never}

-- ---- whether bytes are a name

abbrev may_name : List ℕ → Bool
may_name bytes = nat_le 1 (length bytes) && (nat_le (length bytes) 64 && list_all is_name_byte bytes)

both : (a b : Bool) → (a && b) ≡ true → (a ≡ true) × (b ≡ true)
both true b h = (refl, h)
both false b h = absurd (never h)

named : (bytes : List ℕ) → may_name bytes ≡ true → IsName bytes
named bytes h =
    let parts = both (nat_le 1 (length bytes)) (nat_le (length bytes) 64 && list_all is_name_byte bytes) h in
    let rest = both (nat_le (length bytes) 64) (list_all is_name_byte bytes) parts.1 in
    record {
      not_empty = leb-true 1 (length bytes) parts.0;
      short = leb-true (length bytes) 64 rest.0;
      of_name_bytes = AllPass-from_list_all is_name_byte bytes rest.1;
    }

not_named : (bytes : List ℕ) → may_name bytes ≡ false → IsName bytes → ⊥
not_named bytes h name = never (sym h ∙ rw (le-leb 1 (length bytes) name.not_empty, le-leb (length bytes) 64 name.short, list_all-from_AllPass is_name_byte bytes name.of_name_bytes) refl)

session_named : (token : Option (List ℕ)) → (session : Option (List ℕ)) × NamesSession token session
session_named None = (None, refl)
session_named (Some token) = elim (yes_no (may_name token)) [
  | inl is ↦ (Some token, (named token is, refl))
  | inr is_not ↦ (None, not_named token is_not)
]

-- ---- what a whole head makes of the rest

by_result : (r : Result ℕ ℕ) → ((c : ℕ) × (r ≡ Err c)) ⊎ ((n : ℕ) × (r ≡ Ok n))
by_result (Err c) = inl (c, refl)
by_result (Ok n) = inr (n, refl)

pub at_head : (h : RequestHead) (after : List ℕ) → (p : Parsed) × AtHead h after p
at_head h after = elim (by_result (judged h)) [
  | inl (c, refused) ↦ (Refused c, refused)
  | inr (n, served) ↦ elim (cases_lt (length after) n) [
    | inl short ↦ (More, record { wanted = n; served = served; short = short })
    | inr long ↦
        let (session, names) = session_named (token_of (fields_of h)) in
        let request : Request = record {
          method = h.method;
          target = h.target;
          path = path_of h.target;
          query = query_of h.target;
          version = version_of h.minor;
          closes = closes_by h.minor h.method (fields_of h);
          late = late_by h.method (fields_of h);
          content_type = first_value content_type (fields_of h);
          csrf = first_value csrf_token (fields_of h);
          session = session;
          body = take n after;
        } in
        let size : length (take n after) ≡ n = omega (arith, length-take n after) in (
          Whole request (length (print_request h) + length (take n after)),
          record {
            rest = drop n after;
            body = sym (take-append-drop n after);
            served = served ∙ ap Ok (sym size);
            is = record { method = refl; target = refl; path = refl; query = refl; version = refl; closes = refl; late = refl; content_type = refl; csrf = refl; session = names };
            size_is = refl;
          },
        )
  ]
]

-- ---- what bytes begin with

head_stands : (bytes : List ℕ) (h : RequestHead) (rest : List ℕ) → ReadsRequest (take head_limit bytes) h rest → HasHead bytes h (rest ++ drop head_limit bytes)
head_stands bytes h rest reads = record {
  reads = subst (λ (l : List ℕ). ReadsRequest l h (rest ++ drop head_limit bytes)) (take-append-drop head_limit bytes) (ReadsRequest-append (take head_limit bytes) h rest (drop head_limit bytes) reads);
  fits = omega (arith, ap length reads.1, length-append (print_request h) rest, length-take head_limit bytes);
}

begun : (bytes : List ℕ) → HasNoRequest (take head_limit bytes) → MayBecomeRequest (take head_limit bytes) → (p : Parsed) × Parses bytes p
begun bytes none may = elim (cases_lt (length bytes) head_limit) [
  | inl short ↦
      let whole : take head_limit bytes ≡ bytes = take_all head_limit bytes (omega arith) in
      (More, inl (record { no_head = subst HasNoRequest whole none; begun = subst MayBecomeRequest whole may; short = short }))
  | inr long ↦ (Refused 431, inl (refl, record { long = long; no_head = none; begun = may }))
]

pub parses_some : (bytes : List ℕ) → (p : Parsed) × Parses bytes p
parses_some bytes = elim (head_fate (take head_limit bytes)) [
  | inl (h, rest, reads) ↦
      let has = head_stands bytes h rest reads in
      let (p, at) = at_head h (rest ++ drop head_limit bytes) in
      (p, at_head_parses bytes h (rest ++ drop head_limit bytes) p has at)
  | inr (inl (none, may)) ↦ begun bytes none may
  | inr (inr none) ↦ elim (yes_no (accepts place.Start (take head_limit bytes))) [
    | inl inside ↦ begun bytes (subst HasNoRequest (append-nil (take head_limit bytes)) (none [])) (inr (ends (take head_limit bytes) inside))
    | inr outside ↦ (Refused 400, inr (inl (refl, record { never = none; not_in_target = λ e. never (sym outside ∙ accepted (take head_limit bytes) e) })))
  ]
]

-- ---- readings

abbrev Reading : ℕ → List ℕ → Type 0
Reading k bytes = (requests : List Request) × (end : End) × Reads k bytes requests end

reads_on : (k : ℕ) (bytes : List ℕ) (p : Parsed) → Parses bytes p → ((rest : List ℕ) → Reading k rest) → Reading (suc k) bytes
reads_on k bytes (Whole r n) parses next = elim (yes_no r.closes) [
  | inl closing ↦ (r ∷ [], Asks, (Whole r n, parses, ([], refl, subst (λ (b : Bool). ReadsAfter b (Reads k (drop n bytes)) [] Asks) (sym closing) (refl, refl))))
  | inr still ↦
      let (later, end, reads) = next (drop n bytes) in
      (r ∷ later, end, (Whole r n, parses, (later, refl, subst (λ (b : Bool). ReadsAfter b (Reads k (drop n bytes)) later end) (sym still) reads)))
]
reads_on k bytes More parses next = ([], ending bytes, (More, parses, (refl, refl)))
reads_on k bytes (Refused c) parses next = ([], Code c, (Refused c, parses, (refl, refl)))

-- every text has a reading
pub reads_some : (k : ℕ) (bytes : List ℕ) → Reading k bytes
reads_some zero bytes = ([], Limit, (refl, refl))
reads_some (suc k) bytes =
    let (p, parses) = parses_some bytes in
    reads_on k bytes p parses (reads_some k)
