-- The requests of a front of a text.
use Rattle.std.proofs.Common.{◌≡◌, ◌∙◌, ◌++◌, ℕ, zero, suc, List, [], ◌∷◌, Bool, true, false, Option, Some, None, drop, ap, sym, subst}
use Rattle.std.proofs.lemmas.List.{append-nil, drop-append-le}
use Rattle.site_io.specs.Told.{before, IsNothingLeft}
use Rattle.http_heads.specs.declared.request.Request.{Request}
use Rattle.http_heads.specs.declared.parsed.Parsed.{Parsed}
use Rattle.http_heads.specs.declared.parsed.Parsed.TheVariants.{Whole, More, Refused}
use Rattle.http_heads.specs.Parses.{Parses}
use Rattle.http_heads.specs.Requests.{End, Empty, Asks, Limit, Code, Cut, Reads, ReadsOn, ReadsAfter, ending}
use Rattle.http_heads.proofs.Laws.{whole_stays, whole_takes, refused_stays}

-- whether what follows changes nothing
abbrev pub IsDecided : End → Type 0
IsDecided Empty = ⊥
IsDecided Asks = Unit {0}
IsDecided Limit = Unit {0}
IsDecided (Code code) = Unit {0}
IsDecided (Cut size) = ⊥

undecided : (bytes : List ℕ) → IsDecided (ending bytes) → ⊥
undecided [] h = h
undecided (b ∷ bytes) h = h

after_more : (closes : Bool) (k : ℕ) (here there : List ℕ) (rest : List Request) (end : End) → (Reads k here rest end → Reads k there rest end) → ReadsAfter closes (Reads k here) rest end → ReadsAfter closes (Reads k there) rest end
after_more true k here there rest end on r = r
after_more false k here there rest end on r = on r

on_more : (k : ℕ) (bytes more : List ℕ) (parsed : Parsed) (requests : List Request) (end : End) → IsDecided end → ((b m : List ℕ) (rs : List Request) → Reads k b rs end → Reads k (b ++ m) rs end) → Parses bytes parsed → ReadsOn (Reads k) bytes parsed requests end → (p : Parsed) × Parses (bytes ++ more) p × ReadsOn (Reads k) (bytes ++ more) p requests end
on_more k bytes more (Whole request size) requests end decided on parses r =
    let within = (whole_takes bytes request size parses).within in
    let there : drop size (bytes ++ more) ≡ drop size bytes ++ more = drop-append-le size bytes more within in (
      Whole request size,
      whole_stays bytes more request size parses,
      (
        r.0,
        r.1,
        after_more request.closes k (drop size bytes) (drop size (bytes ++ more)) r.0 end
            (λ read. subst (λ (l : List ℕ). Reads k l r.0 end) (sym there) (on (drop size bytes) more r.0 read)) r.2,
      ),
    )
on_more k bytes more More requests end decided on parses r = absurd (undecided bytes (subst IsDecided r.1 decided))
on_more k bytes more (Refused code) requests end decided on parses r =
    (Refused code, refused_stays bytes more code parses, r)

pub reads_more : (k : ℕ) (bytes more : List ℕ) (requests : List Request) (end : End) → IsDecided end → Reads k bytes requests end → Reads k (bytes ++ more) requests end
reads_more zero bytes more requests end decided r = r
reads_more (suc k) bytes more requests end decided r =
    on_more k bytes more r.0 requests end decided (λ b m rs. reads_more k b m rs end decided) r.1 r.2

-- ---- what was taken of what was there

inner : {A : Type 0} {x y : A} → Some x ≡ Some y → x ≡ y
inner same = cc

-- some are left
pub taken_more : (bytes taken : List ℕ) (left : Option (List ℕ)) → Some bytes ≡ before taken left → (rest : List ℕ) × (bytes ≡ taken ++ rest)
taken_more bytes taken None source = absurd cc
taken_more bytes taken (Some rest) source = (rest, inner source)

-- none is left
pub taken_all : (bytes taken : List ℕ) (left : Option (List ℕ)) → Some bytes ≡ before taken left → IsNothingLeft left → bytes ≡ taken
taken_all bytes taken None source nothing = absurd cc
taken_all bytes taken (Some rest) source nothing = inner source ∙ ap (λ (l : List ℕ). taken ++ l) nothing ∙ append-nil taken
