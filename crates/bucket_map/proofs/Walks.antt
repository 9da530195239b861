-- Walks over the buckets of a map: what they tell of its entries in order, however they are gone over.
use Rattle.std.proofs.Common.{ℕ, suc, List, [], ◌∷◌, ◌++◌, ◌≡◌, ◌<◌, ◌+◌, length, get_or, drop, append_assoc, ◌≤◌, refl, sym, ◌∙◌, ap, subst, arith, Bool, true, false, cond, Some, None}
use Rattle.std.specs.Prelude.{◌||◌, is_some}
use Rattle.std.specs.List.{AllByRecursion, list_any, IsDistinct}
use Rattle.std.specs.List.Sorted.{IsStrictlySortedBy, IsSorted, IsPermutation}
use Rattle.std.specs.Ordering.{match_ordering, is_eq, is_lt, eq_by_cmp, ordering_reverse}
use Rattle.std.specs.Cmp.{IsTotalOrder, eq_by_cmp_equiv}
use Rattle.std.specs.declared.cmp.Ordering.{Ordering}
use Rattle.std.specs.declared.cmp.Ordering.TheVariants.{Less, Equal, Greater}
use Rattle.std.specs.Map.{lookup, keys_of}
use Rattle.std.specs.BTreeMap.{is_at, insert_entry}
use Rattle.std.proofs.lemmas.List.{drop_more, drop_all, append-nil, map-append}
use Rattle.std.proofs.lemmas.List.Sorted.{list_any-IsPermutation, IsPermutation-refl, IsPermutation-cons, IsPermutation-trans, IsPermutation-middle}
use Rattle.std.proofs.lemmas.Map.Keys.{sorted_head, sorted_tail, apart_from_distinct, IsDistinct-IsPermutation, IsDistinct-cons, sorted_from_all_adjacent}
use Rattle.std.proofs.lemmas.Map.Lookups.{CmpEqualImpliesEq}
use Rattle.bucket_map.specs.Buckets.{flat, in_order, ArePlaced}
use Rattle.bucket_map.proofs.Entries.{same_pairs, length-put, past_head, some_is_none, taken, passed}
use Rattle.bucket_map.proofs.InBuckets.{found-in_order, sorted-in_order, none_above, found_first}

-- the keys of one bucket more
pub keys_more : {K X : Type 0} (ks all : List K) (bs : List (List (K × X))) (i : ℕ) (b : List (K × X)) → i < length bs → b ≡ get_or bs i b → ks ++ keys_of (flat (drop i bs)) ≡ all → (ks ++ keys_of b) ++ keys_of (flat (drop (i + 1) bs)) ≡ all
keys_more ks all bs i b l is so_far =
    append_assoc ks (keys_of b) (keys_of (flat (drop (i + 1) bs)))
    ∙ ap (λ l. ks ++ l) (sym (map-append (λ e. e.0) b (flat (drop (i + 1) bs))))
    ∙ ap (λ l. ks ++ keys_of (flat l)) (sym (drop_more bs i b l ∙ ap (λ x. x ∷ drop (i + 1) bs) (sym is)))
    ∙ so_far

pub keys_all : {K X : Type 0} (ks all : List K) (bs : List (List (K × X))) (i : ℕ) → length bs ≤ i → ks ++ keys_of (flat (drop i bs)) ≡ all → ks ≡ all
keys_all ks all bs i l so_far = sym (append-nil ks) ∙ ap (λ bs'. ks ++ keys_of (flat bs')) (sym (drop_all i bs l)) ∙ so_far

never : {P : Type 0} {b : Bool} → b ≡ true → b ≡ false → P
never {b = b} t f = absurd (no (sym t ∙ f))
  where
    no : true ≡ false → ⊥
    no e = cc

-- keys as entries of nothing
abbrev bare : {K : Type 0} → List K → List (K × Unit {0})
bare [] = []
bare (k ∷ ks) = (k, tt) ∷ bare ks

keys_of_bare : {K : Type 0} (ks : List K) → keys_of (bare ks) ≡ ks
keys_of_bare [] = refl
keys_of_bare (k ∷ ks) = ap (λ l. k ∷ l) (keys_of_bare ks)

-- ---- keys alone

module _ {K : Type 0} (R : K → K → Ordering) (total : IsTotalOrder R) (exact : CmpEqualImpliesEq R) where
  rises : (a b : K) (r : Ordering) → R a b ≡ r → is_lt (R b a) ≡ false → eq_by_cmp R a b ≡ false → R a b ≡ Less
  rises a b Less at l off = at
  rises a b Equal at l off = never (ap is_eq at) off
  rises a b Greater at l off = never (ap is_lt (total.antisymm b a ∙ ap ordering_reverse at)) l

  strictly : (ks : List K) → IsSorted R ks → IsDistinct (eq_by_cmp R) ks → IsStrictlySortedBy R ks
  unfolding IsStrictlySortedBy
  strictly [] s d = tt
  strictly (k ∷ ks) s d = sorted_from_all_adjacent total (k ∷ ks) k (λ i below.
      rises (get_or (k ∷ ks) i k) (get_or (k ∷ ks) (i + 1) k) _ refl (s i k (omega arith) below) (apart_from_distinct (eq_by_cmp R) (k ∷ ks) i (i + 1) k d (omega arith) below))

  found_bare : (q : K) (ks : List K) → lookup (is_at (R q)) (bare ks) ≡ cond (list_any (λ k. is_eq (R q k)) ks) (Some tt) None
  found_bare q [] = refl
  found_bare q (k ∷ ks) = go (is_eq (R q k)) (found_bare q ks)
    where
      go : (b : Bool) → lookup (is_at (R q)) (bare ks) ≡ cond (list_any (λ k'. is_eq (R q k')) ks) (Some tt) None → cond b (Some tt) (lookup (is_at (R q)) (bare ks)) ≡ cond (b || list_any (λ k'. is_eq (R q k')) ks) (Some tt) None
      go true rest = refl
      go false rest = rest

  same_keys : (xs ys : List K) → IsStrictlySortedBy R xs → IsStrictlySortedBy R ys → ((q : K) → list_any (λ k. is_eq (R q k)) xs ≡ list_any (λ k. is_eq (R q k)) ys) → xs ≡ ys
  same_keys xs ys s t same =
      let pairs : bare xs ≡ bare ys = same_pairs R total exact (bare xs) (bare ys)
      (subst (IsStrictlySortedBy R) (sym (keys_of_bare xs)) s) (subst (IsStrictlySortedBy R) (sym (keys_of_bare ys)) t)
      (λ q. found_bare q xs ∙ ap (λ b. cond b (Some tt) None) (same q) ∙ sym (found_bare q ys)) in
      sym (keys_of_bare xs) ∙ ap keys_of pairs ∙ keys_of_bare ys

module _ {K X : Type 0} (R : K → K → Ordering) (total : IsTotalOrder R) (exact : CmpEqualImpliesEq R) where
  -- no key stands twice
  abbrev pub AreFresh : List (K × X) → Type 0
  AreFresh [] = Unit {0}
  AreFresh (e ∷ es) = (lookup (is_at (R e.0)) es ≡ None) × AreFresh es

  pub length-in_order : (es : List (K × X)) → AreFresh es → length (in_order R es) ≡ length es
  length-in_order [] h = refl
  length-in_order (e ∷ es) h =
      length-put R total exact (in_order R es) e.0 e.1 (found-in_order R total exact (λ k. 0) e.0 es ∙ h.0) ∙ ap suc (length-in_order es h.1)

  -- ---- the order is all that differs

  put_moved : (es : List (K × X)) (k : K) (v : X) → lookup (is_at (R k)) es ≡ None → IsPermutation (insert_entry R es k v) ((k, v) ∷ es)
  put_moved [] k v none = IsPermutation-refl ((k, v) ∷ [])
  put_moved (e ∷ es) k v none = go (λ behind. put_moved es k v behind) (R k e.0) refl
    where
      go : (lookup (is_at (R k)) es ≡ None → IsPermutation (insert_entry R es k v) ((k, v) ∷ es)) → (o : Ordering) → R k e.0 ≡ o → IsPermutation (match_ordering o ((k, v) ∷ e ∷ es) ((e.0, v) ∷ es) (e ∷ insert_entry R es k v)) ((k, v) ∷ e ∷ es)
      go rest Less at = IsPermutation-refl ((k, v) ∷ e ∷ es)
      go rest Equal at = some_is_none e.1 (sym (taken (is_eq (R k e.0)) (Some e.1) (lookup (is_at (R k)) es) (ap is_eq at)) ∙ none)
      go rest Greater at =
          let others = rest (sym (passed (is_eq (R k e.0)) (Some e.1) (lookup (is_at (R k)) es) (ap is_eq at)) ∙ none) in
          IsPermutation-trans (e ∷ insert_entry R es k v) (e ∷ (k, v) ∷ es) ((k, v) ∷ e ∷ es)
          (IsPermutation-cons e (insert_entry R es k v) ((k, v) ∷ es) others) (IsPermutation-middle (e ∷ []) (k, v) es)

  moved-in_order : (es : List (K × X)) → AreFresh es → IsPermutation (in_order R es) es
  moved-in_order [] h = IsPermutation-refl []
  moved-in_order (e ∷ es) h =
      IsPermutation-trans (in_order R (e ∷ es)) (e ∷ in_order R es) (e ∷ es)
      (put_moved (in_order R es) e.0 e.1 (found-in_order R total exact (λ k. 0) e.0 es ∙ h.0))
      (IsPermutation-cons e (in_order R es) es (moved-in_order es h.1))

  -- ---- the keys, sorted

  keys_apart : (q : K) (es : List (K × X)) → lookup (is_at (R q)) es ≡ None → AllByRecursion (λ k. eq_by_cmp R q k ≡ false) (keys_of es)
  keys_apart q [] none = tt
  keys_apart q (e ∷ es) none = go (λ behind. keys_apart q es behind) (is_eq (R q e.0)) refl
    where
      go : (lookup (is_at (R q)) es ≡ None → AllByRecursion (λ k. eq_by_cmp R q k ≡ false) (keys_of es)) → (b : Bool) → is_eq (R q e.0) ≡ b → AllByRecursion (λ k. eq_by_cmp R q k ≡ false) (keys_of (e ∷ es))
      go rest true at = some_is_none e.1 (sym (taken (is_eq (R q e.0)) (Some e.1) (lookup (is_at (R q)) es) at) ∙ none)
      go rest false off = (off, rest (sym (passed (is_eq (R q e.0)) (Some e.1) (lookup (is_at (R q)) es) off) ∙ none))

  distinct_keys : (es : List (K × X)) → AreFresh es → IsDistinct (eq_by_cmp R) (keys_of es)
  unfolding IsDistinct
  distinct_keys [] h = tt
  distinct_keys (e ∷ es) h = IsDistinct-cons (eq_by_cmp R) e.0 (keys_of es) (keys_apart e.0 es h.0) (distinct_keys es h.1)

  any_key : (q : K) (es : List (K × X)) → is_some (lookup (is_at (R q)) es) ≡ list_any (λ k. is_eq (R q k)) (keys_of es)
  any_key q [] = refl
  any_key q (e ∷ es) = go (is_eq (R q e.0)) (any_key q es)
    where
      go : (b : Bool) → is_some (lookup (is_at (R q)) es) ≡ list_any (λ k. is_eq (R q k)) (keys_of es) → is_some (cond b (Some e.1) (lookup (is_at (R q)) es)) ≡ (b || list_any (λ k. is_eq (R q k)) (keys_of es))
      go true rest = refl
      go false rest = rest

  pub sorted_keys : (es : List (K × X)) (ks : List K) → AreFresh es → IsPermutation (keys_of es) ks → IsSorted R ks → ks ≡ keys_of (in_order R es)
  sorted_keys es ks fresh moved sorted =
      same_keys R total exact ks (keys_of (in_order R es))
      (strictly R total exact ks sorted (IsDistinct-IsPermutation (eq_by_cmp R) (eq_by_cmp_equiv total).symm (keys_of es) ks moved (distinct_keys es fresh)))
      (sorted-in_order R total exact (λ k. 0) es)
      (λ q.
      sym (list_any-IsPermutation (λ k. is_eq (R q k)) (keys_of es) ks moved)
      ∙ sym (any_key q es)
      ∙ ap is_some (sym (found-in_order R total exact (λ k. 0) q es))
      ∙ any_key q (in_order R es))

  -- ---- the buckets

  module _ (place : K → ℕ) where
    fresh_bucket : (n : ℕ) (b rest : List (K × X)) → AllByRecursion (λ k. place k ≡ n) (keys_of b) → IsStrictlySortedBy R (keys_of b) → ((q : K) → place q ≡ n → lookup (is_at (R q)) rest ≡ None) → AreFresh rest → AreFresh (b ++ rest)
    fresh_bucket n [] rest own sorted none fresh = fresh
    fresh_bucket n (e ∷ b) rest own sorted none fresh = (
      found_first R total exact place e.0 b rest (none e.0 own.0) ∙ past_head R total exact e b (sorted_head R e.0 (keys_of b) sorted),
      fresh_bucket n b rest own.1 (sorted_tail R e.0 (keys_of b) sorted) none fresh,
    )

    fresh_from : (n : ℕ) (bs : List (List (K × X))) → ArePlaced R place n bs → AreFresh (flat bs)
    fresh_from n [] h = tt
    fresh_from n (b ∷ bs) h =
        fresh_bucket n b (flat bs) h.0 h.1 (λ q at. none_above R total exact place q (suc n) bs h.2 (omega arith)) (fresh_from (suc n) bs h.2)

    module _ (bs : List (List (K × X))) (h : ArePlaced R place 0 bs) where
      pub fresh_in_buckets : AreFresh (flat bs)
      fresh_in_buckets = fresh_from 0 bs h

      pub length_in_buckets : length (in_order R (flat bs)) ≡ length (flat bs)
      length_in_buckets = length-in_order (flat bs) fresh_in_buckets

      pub moved_in_buckets : IsPermutation (in_order R (flat bs)) (flat bs)
      moved_in_buckets = moved-in_order (flat bs) fresh_in_buckets
