-- Where a key stands among entries in order, or where it would go: how a search comes to it, and what follows.
use Rattle.std.proofs.Common.{ℕ, zero, suc, List, [], ◌∷◌, ◌++◌, ◌≡◌, ◌≤◌, ◌<◌, ◌+◌, length, get_or, take, drop, refl, sym, ◌∙◌, ap, subst, arith, Some, None, slice_set}
use Rattle.std.specs.List.{AllByRecursion}
use Rattle.std.specs.List.Sorted.{IsStrictlySortedBy}
use Rattle.std.specs.Ordering.{match_ordering, is_eq, ordering_reverse}
use Rattle.std.specs.declared.cmp.Ordering.{Ordering}
use Rattle.std.specs.declared.cmp.Ordering.TheVariants.{Less, Equal, Greater}
use Rattle.std.specs.Cmp.{IsTotalOrder}
use Rattle.std.specs.Map.{lookup, remove_entry, keys_of}
use Rattle.std.specs.BTreeMap.{is_at, insert_entry}
use Rattle.std.proofs.lemmas.List.{drop_all, length-append, take-append-drop}
use Rattle.std.proofs.lemmas.Map.Lookups.{CmpEqualImpliesEq}
use Rattle.bucket_map.specs.Buckets.{StandsAt, GoesTo}
use Rattle.bucket_map.proofs.Entries.{taken, passed, below_all}

next : (i : ℕ) → suc i ≡ i + 1
next i = omega arith

-- an entry below another that is below the key
lower : {K : Type 0} {R : K → K → Ordering} → IsTotalOrder R → (e y k : K) → R e y ≡ Less → R k y ≡ Greater → R k e ≡ Greater
lower total e y k less greater = total.antisymm k e ∙ ap ordering_reverse (total.trans e y k less (total.antisymm y k ∙ ap ordering_reverse greater))

length_set : {A : Type 0} (xs : List A) (i : ℕ) (x : A) → length (slice_set xs i x) ≡ length xs
length_set [] i x = refl
length_set (y ∷ xs) zero x = refl
length_set (y ∷ xs) (suc i) x = ap suc (length_set xs i x)

module _ {K X : Type 0} (R : K → K → Ordering) (total : IsTotalOrder R) (exact : CmpEqualImpliesEq R) where
  all_at : (P : K → Type 0) (es : List (K × X)) (i : ℕ) (d : K × X) → AllByRecursion P (keys_of es) → i < length es → P ((get_or es i d).0)
  all_at P [] i d h l = absurd (omega arith)
  all_at P (e ∷ es) zero d h l = h.0
  all_at P (e ∷ es) (suc i) d h l = all_at P es i d h.1 (omega arith)

  -- ---- the two halves

  below_with : (es : List (K × X)) (k : K) (i : ℕ) (d : K × X) → IsStrictlySortedBy R (keys_of es) → i < length es → R k ((get_or es i d).0) ≡ Greater → AllByRecursion (λ q. R k q ≡ Greater) (keys_of (take (suc i) es))
  unfolding IsStrictlySortedBy
  below_with [] k i d s l h = absurd (omega arith)
  below_with (e ∷ es) k zero d s l h = (h, tt)
  below_with (e ∷ es) k (suc i) d s l h =
      (lower total e.0 ((get_or es i d).0) k (all_at (λ q. R e.0 q ≡ Less) es i d s.0 (omega arith)) h, below_with es k i d s.1 (omega arith) h)

  pub below_to : (es : List (K × X)) (k : K) (i : ℕ) (d : K × X) → IsStrictlySortedBy R (keys_of es) → i < length es → R k ((get_or es i d).0) ≡ Greater → AllByRecursion (λ q. R k q ≡ Greater) (keys_of (take (i + 1) es))
  below_to es k i d s l h = subst (λ n. AllByRecursion (λ q. R k q ≡ Greater) (keys_of (take n es))) (next i) (below_with es k i d s l h)

  pub above_from : (es : List (K × X)) (k : K) (i : ℕ) (d : K × X) → IsStrictlySortedBy R (keys_of es) → i < length es → R k ((get_or es i d).0) ≡ Less → AllByRecursion (λ q. R k q ≡ Less) (keys_of (drop i es))
  unfolding IsStrictlySortedBy
  above_from [] k i d s l h = absurd (omega arith)
  above_from (e ∷ es) k zero d s l h = (h, below_all total k e.0 (keys_of es) h s.0)
  above_from (e ∷ es) k (suc i) d s l h = above_from es k i d s.1 (omega arith) h

  pub stands_at : (es : List (K × X)) (k : K) (i : ℕ) (d : K × X) → IsStrictlySortedBy R (keys_of es) → i < length es → R k ((get_or es i d).0) ≡ Equal → StandsAt R es k i
  unfolding IsStrictlySortedBy
  stands_at [] k i d s l h = absurd (omega arith)
  stands_at (e ∷ es) k zero d s l h = (tt, (h, tt), l)
  stands_at (e ∷ es) k (suc i) d s l h =
      let rest = stands_at es k i d s.1 (omega arith) h in
      let before : R e.0 ((get_or es i d).0) ≡ Less = all_at (λ q. R e.0 q ≡ Less) es i d s.0 (omega arith) in
      let own : R e.0 k ≡ Less = subst (λ q. R e.0 q ≡ Less) (sym (exact k ((get_or es i d).0) h)) before in
      ((total.antisymm k e.0 ∙ ap ordering_reverse own, rest.0), rest.1, l)

  pub goes_to : (es : List (K × X)) (k : K) (low high : ℕ) → low ≤ high → high ≤ low → high ≤ length es → AllByRecursion (λ q. R k q ≡ Greater) (keys_of (take low es)) → AllByRecursion (λ q. R k q ≡ Less) (keys_of (drop high es)) → GoesTo R es k low
  goes_to es k low high a b l below above =
      let same : high ≡ low = omega arith in
      (below, subst (λ n. AllByRecursion (λ q. R k q ≡ Less) (keys_of (drop n es))) same above, omega arith)

  -- at first nothing was seen
  pub none_above : (es : List (K × X)) (k : K) → AllByRecursion (λ q. R k q ≡ Less) (keys_of (drop (length es) es))
  none_above es k = subst (λ l. AllByRecursion (λ q. R k q ≡ Less) (keys_of l)) (sym (drop_all (length es) es (omega arith))) tt

  -- ---- what follows of the place

  pub found_at : (es : List (K × X)) (k : K) (i : ℕ) (d : K × X) → StandsAt R es k i → lookup (is_at (R k)) es ≡ Some ((get_or es i d).1)
  found_at [] k i d h = absurd (let l = h.2 in omega arith)
  found_at (e ∷ es) k zero d h = taken (is_eq (R k e.0)) (Some e.1) (lookup (is_at (R k)) es) (ap is_eq h.1.0)
  found_at (e ∷ es) k (suc i) d h =
      passed (is_eq (R k e.0)) (Some e.1) (lookup (is_at (R k)) es) (ap is_eq h.0.0) ∙ found_at es k i d (h.0.1, h.1, let l = h.2 in omega arith)

  pub not_found : (es : List (K × X)) (k : K) (i : ℕ) → GoesTo R es k i → lookup (is_at (R k)) es ≡ None
  not_found [] k i h = refl
  not_found (e ∷ es) k zero h = passed (is_eq (R k e.0)) (Some e.1) (lookup (is_at (R k)) es) (ap is_eq h.1.0) ∙ not_found es k 0 (tt, h.1.1, omega arith)
  not_found (e ∷ es) k (suc i) h =
      passed (is_eq (R k e.0)) (Some e.1) (lookup (is_at (R k)) es) (ap is_eq h.0.0) ∙ not_found es k i (h.0.1, h.1, let l = h.2 in omega arith)

  by_rank : (o o' : Ordering) (a b c : List (K × X)) → o ≡ o' → match_ordering o a b c ≡ match_ordering o' a b c
  by_rank o o' a b c is = ap (λ r. match_ordering r a b c) is

  put_here : (es : List (K × X)) (k : K) (i : ℕ) (v : X) → StandsAt R es k i → insert_entry R es k v ≡ take i es ++ (k, v) ∷ drop (suc i) es
  put_here [] k i v h = absurd (let l = h.2 in omega arith)
  put_here (e ∷ es) k zero v h =
      by_rank (R k e.0) Equal ((k, v) ∷ e ∷ es) ((e.0, v) ∷ es) (e ∷ insert_entry R es k v) h.1.0 ∙ ap (λ q. (q, v) ∷ es) (sym (exact k e.0 h.1.0))
  put_here (e ∷ es) k (suc i) v h =
      by_rank (R k e.0) Greater ((k, v) ∷ e ∷ es) ((e.0, v) ∷ es) (e ∷ insert_entry R es k v) h.0.0
      ∙ ap (λ l. e ∷ l) (put_here es k i v (h.0.1, h.1, let l = h.2 in omega arith))

  pub put_at : (es : List (K × X)) (k : K) (i : ℕ) (v : X) → StandsAt R es k i → insert_entry R es k v ≡ take i es ++ (k, v) ∷ drop (i + 1) es
  put_at es k i v h = put_here es k i v h ∙ ap (λ n. take i es ++ (k, v) ∷ drop n es) (next i)

  pub put_between : (es : List (K × X)) (k : K) (i : ℕ) (v : X) → GoesTo R es k i → insert_entry R es k v ≡ take i es ++ (k, v) ∷ drop i es
  put_between [] k zero v h = refl
  put_between [] k (suc i) v h = absurd (let l = h.2 in omega arith)
  put_between (e ∷ es) k zero v h = by_rank (R k e.0) Less ((k, v) ∷ e ∷ es) ((e.0, v) ∷ es) (e ∷ insert_entry R es k v) h.1.0
  put_between (e ∷ es) k (suc i) v h =
      by_rank (R k e.0) Greater ((k, v) ∷ e ∷ es) ((e.0, v) ∷ es) (e ∷ insert_entry R es k v) h.0.0
      ∙ ap (λ l. e ∷ l) (put_between es k i v (h.0.1, h.1, let l = h.2 in omega arith))

  cut_here : (es : List (K × X)) (k : K) (i : ℕ) → StandsAt R es k i → remove_entry (is_at (R k)) es ≡ take i es ++ drop (suc i) es
  cut_here [] k i h = absurd (let l = h.2 in omega arith)
  cut_here (e ∷ es) k zero h = taken (is_eq (R k e.0)) es (e ∷ remove_entry (is_at (R k)) es) (ap is_eq h.1.0)
  cut_here (e ∷ es) k (suc i) h =
      passed (is_eq (R k e.0)) es (e ∷ remove_entry (is_at (R k)) es) (ap is_eq h.0.0) ∙ ap (λ l. e ∷ l) (cut_here es k i (h.0.1, h.1, let l = h.2 in omega arith))

  pub cut_at : (es : List (K × X)) (k : K) (i : ℕ) → StandsAt R es k i → remove_entry (is_at (R k)) es ≡ take i es ++ drop (i + 1) es
  cut_at es k i h = cut_here es k i h ∙ ap (λ n. take i es ++ drop n es) (next i)

  pub cut_none : (es : List (K × X)) (k : K) (i : ℕ) → GoesTo R es k i → remove_entry (is_at (R k)) es ≡ take i es ++ drop i es
  cut_none [] k zero h = refl
  cut_none [] k (suc i) h = refl
  cut_none (e ∷ es) k zero h =
      passed (is_eq (R k e.0)) es (e ∷ remove_entry (is_at (R k)) es) (ap is_eq h.1.0) ∙ ap (λ l. e ∷ l) (cut_none es k 0 (tt, h.1.1, omega arith))
  cut_none (e ∷ es) k (suc i) h =
      passed (is_eq (R k e.0)) es (e ∷ remove_entry (is_at (R k)) es) (ap is_eq h.0.0) ∙ ap (λ l. e ∷ l) (cut_none es k i (h.0.1, h.1, let l = h.2 in omega arith))

  -- ---- an entry that is written over another

  pub put_over : (es : List (K × X)) (k : K) (i : ℕ) (v : X) → StandsAt R es k i → slice_set es i (k, v) ≡ insert_entry R es k v
  put_over [] k i v h = absurd (let l = h.2 in omega arith)
  put_over (e ∷ es) k zero v h =
      ap (λ q. (q, v) ∷ es) (exact k e.0 h.1.0) ∙ sym (by_rank (R k e.0) Equal ((k, v) ∷ e ∷ es) ((e.0, v) ∷ es) (e ∷ insert_entry R es k v) h.1.0)
  put_over (e ∷ es) k (suc i) v h =
      ap (λ l. e ∷ l) (put_over es k i v (h.0.1, h.1, let l = h.2 in omega arith))
      ∙ sym (by_rank (R k e.0) Greater ((k, v) ∷ e ∷ es) ((e.0, v) ∷ es) (e ∷ insert_entry R es k v) h.0.0)

  -- ---- how many entries there are then

  pub length_at : (es : List (K × X)) (k : K) (i : ℕ) (v : X) → StandsAt R es k i → length (insert_entry R es k v) ≡ length es + 0
  length_at es k i v h =
      ap length (sym (put_over es k i v h)) ∙ length_set es i (k, v) ∙ omega arith

  pub length_between : (es : List (K × X)) (k : K) (i : ℕ) (v : X) → GoesTo R es k i → length (insert_entry R es k v) ≡ length es + 1
  length_between es k i v h =
      let split = ap length (sym (take-append-drop i es)) ∙ length-append (take i es) (drop i es) in
      let new = ap length (put_between es k i v h) ∙ length-append (take i es) ((k, v) ∷ drop i es) in
      omega arith
