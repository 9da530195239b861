-- Buckets whose keys stand in their places: what is found in them, and what map they are once one of them is replaced.
use Rattle.std.proofs.Common.{ℕ, zero, suc, List, [], ◌∷◌, ◌++◌, ◌≡◌, ◌≢◌, ◌≤◌, ◌<◌, ◌+◌, length, get_or, refl, sym, ◌∙◌, ap, subst, arith, Bool, true, false, cond, Option, Some, None}
use Rattle.std.specs.Prelude.{slice_set, ◌==◌}
use Rattle.std.specs.List.{AllByRecursion, filter}
use Rattle.std.specs.List.Sorted.{IsStrictlySortedBy}
use Rattle.std.specs.Ordering.{is_eq}
use Rattle.std.specs.Cmp.{IsTotalOrder}
use Rattle.std.specs.declared.cmp.Ordering.{Ordering}
use Rattle.std.specs.Map.{lookup, remove_entry, keys_of}
use Rattle.std.specs.BTreeMap.{is_at, insert_entry}
use Rattle.std.proofs.lemmas.List.{length-append}
use Rattle.std.proofs.lemmas.List.Kept.{IsStrictlySortedBy-filter}
use Rattle.std.proofs.lemmas.Map.Lookups.{CmpEqualImpliesEq}
use Rattle.std.proofs.lemmas.Map.Views.{tells_apart}
use Rattle.bucket_map.specs.Buckets.{flat, in_order, ArePlaced, bucket_size}
use Rattle.bucket_map.proofs.Entries.{found_put, found_cut, ordered_put, ordered_cut, all_put, all_cut, same_pairs, keys_kept, found_kept, none_to_cut, taken, passed}

-- ---- one more empty bucket

pub placed_more : {K X : Type 0} (R : K → K → Ordering) (place : K → ℕ) (n : ℕ) (bs : List (List (K × X))) → ArePlaced R place n bs → ArePlaced R place n (bs ++ [] ∷ [])
unfolding IsStrictlySortedBy
placed_more R place n [] h = (tt, tt, tt)
placed_more R place n (b ∷ bs) h = (h.0, h.1, placed_more R place (suc n) bs h.2)

pub flat_more : {A : Type 0} (bs : List (List A)) → flat (bs ++ [] ∷ []) ≡ flat bs
flat_more [] = refl
flat_more (b ∷ bs) = ap (λ l. b ++ l) (flat_more bs)

-- ---- a bucket that is read, and one that is replaced

pub bucket_past : {A : Type 0} (n : ℕ) (bs : List (List A)) → length bs ≤ n → get_or bs n [] ≡ []
bucket_past n [] l = refl
bucket_past zero (b ∷ bs) l = absurd (omega arith)
bucket_past (suc n) (b ∷ bs) l = bucket_past n bs (omega arith)

replaced_own : {A : Type 0} (n : ℕ) (bs : List (List A)) (b' : List A) → n < length bs → get_or (slice_set bs n b') n [] ≡ b'
replaced_own n [] b' l = absurd (omega arith)
replaced_own zero (b ∷ bs) b' l = refl
replaced_own (suc n) (b ∷ bs) b' l = replaced_own n bs b' (omega arith)

replaced_other : {A : Type 0} (n m : ℕ) (bs : List (List A)) (b' : List A) → m ≢ n → get_or (slice_set bs n b') m [] ≡ get_or bs m []
replaced_other n m [] b' other = refl
replaced_other zero zero (b ∷ bs) b' other = absurd (other refl)
replaced_other zero (suc m) (b ∷ bs) b' other = refl
replaced_other (suc n) zero (b ∷ bs) b' other = refl
replaced_other (suc n) (suc m) (b ∷ bs) b' other = replaced_other n m bs b' (λ e. other (ap suc e))

-- how many entries there are then
pub size_replaced : {A : Type 0} (n : ℕ) (bs : List (List A)) (b' : List A) → n < length bs → length (flat (slice_set bs n b')) + length (get_or bs n []) ≡ length (flat bs) + length b'
size_replaced n [] b' l = absurd (omega arith)
size_replaced zero (b ∷ bs) b' l = let one = length-append b' (flat bs) in let other = length-append b (flat bs) in omega arith
size_replaced (suc n) (b ∷ bs) b' l =
    let rest = size_replaced n bs b' (omega arith) in
    let one = length-append b (flat (slice_set bs n b')) in
    let other = length-append b (flat bs) in
    omega arith

pub bucket_within : {A : Type 0} (n : ℕ) (bs : List (List A)) → length (get_or bs n []) ≤ length (flat bs)
bucket_within n [] = omega arith
bucket_within zero (b ∷ bs) = let one = length-append b (flat bs) in omega arith
bucket_within (suc n) (b ∷ bs) = let rest = bucket_within n bs in let one = length-append b (flat bs) in omega arith

-- keys of other places are other keys
apart : {K : Type 0} (R : K → K → Ordering) → CmpEqualImpliesEq R → (place : K → ℕ) → (q k : K) → place k ≢ place q → is_eq (R q k) ≡ false
apart R exact place q k other = go (is_eq (R q k)) refl
  where
    go : (b : Bool) → is_eq (R q k) ≡ b → is_eq (R q k) ≡ false
    go true at = absurd (other (ap place (sym (tells_apart exact q k at))))
    go false off = off

module _ {K X : Type 0} (R : K → K → Ordering) (total : IsTotalOrder R) (exact : CmpEqualImpliesEq R) (place : K → ℕ) where
  abbrev found : K → List (K × X) → Option X
  found q es = lookup (is_at (R q)) es

  -- ---- the entries of all buckets, in order

  pub sorted-in_order : (es : List (K × X)) → IsStrictlySortedBy R (keys_of (in_order R es))
  unfolding IsStrictlySortedBy
  sorted-in_order [] = tt
  sorted-in_order (e ∷ es) = ordered_put R total exact (in_order R es) e.0 e.1 (sorted-in_order es)

  pub found-in_order : (q : K) (es : List (K × X)) → found q (in_order R es) ≡ found q es
  found-in_order q [] = refl
  found-in_order q (e ∷ es) = found_put R total exact (in_order R es) e.0 e.1 q ∙ ap (λ o. cond (is_eq (R q e.0)) (Some e.1) o) (found-in_order q es)

  -- ---- where a key is found

  pub found_first : (q : K) (xs ys : List (K × X)) → found q ys ≡ None → found q (xs ++ ys) ≡ found q xs
  found_first q [] ys none = none
  found_first q (x ∷ xs) ys none = ap (λ o. cond (is_eq (R q x.0)) (Some x.1) o) (found_first q xs ys none)

  found_behind : (q : K) (n : ℕ) (xs ys : List (K × X)) → AllByRecursion (λ k. place k ≡ n) (keys_of xs) → n ≢ place q → found q (xs ++ ys) ≡ found q ys
  found_behind q n [] ys own other = refl
  found_behind q n (x ∷ xs) ys own other =
      passed (is_eq (R q x.0)) (Some x.1) (found q (xs ++ ys)) (apart R exact place q x.0 (λ e. other (sym own.0 ∙ e))) ∙ found_behind q n xs ys own.1 other

  pub none_above : (q : K) (n : ℕ) (bs : List (List (K × X))) → ArePlaced R place n bs → place q < n → found q (flat bs) ≡ None
  none_above q n [] h l = refl
  none_above q n (b ∷ bs) h l = found_behind q n b (flat bs) h.0 (λ e. let same = e in omega arith) ∙ none_above q (suc n) bs h.2 (omega arith)

  found_from : (q : K) (n first : ℕ) (bs : List (List (K × X))) → ArePlaced R place first bs → place q ≡ first + n → found q (flat bs) ≡ found q (get_or bs n [])
  found_from q n first [] h at = refl
  found_from q zero first (b ∷ bs) h at = found_first q b (flat bs) (none_above q (suc first) bs h.2 (omega arith))
  found_from q (suc n) first (b ∷ bs) h at =
      found_behind q first b (flat bs) h.0 (λ e. let same = e in omega arith) ∙ found_from q n (suc first) bs h.2 (omega arith)

  -- in its own bucket alone
  pub found_in_bucket : (q : K) (bs : List (List (K × X))) → ArePlaced R place 0 bs → found q (in_order R (flat bs)) ≡ found q (get_or bs (place q) [])
  found_in_bucket q bs h = found-in_order q (flat bs) ∙ found_from q (place q) 0 bs h (omega arith)

  -- ---- what each bucket keeps

  sorted_from : (n first : ℕ) (bs : List (List (K × X))) → ArePlaced R place first bs → IsStrictlySortedBy R (keys_of (get_or bs n []))
  unfolding IsStrictlySortedBy
  sorted_from n first [] h = tt
  sorted_from zero first (b ∷ bs) h = h.1
  sorted_from (suc n) first (b ∷ bs) h = sorted_from n (suc first) bs h.2

  pub bucket_sorted : (n : ℕ) (bs : List (List (K × X))) → ArePlaced R place 0 bs → IsStrictlySortedBy R (keys_of (get_or bs n []))
  bucket_sorted n bs h = sorted_from n 0 bs h

  abbrev HasPlace : ℕ → List (K × X) → Type 0
  HasPlace n es = AllByRecursion (λ k. place k ≡ n) (keys_of es)

  placed_from : (n first : ℕ) (bs : List (List (K × X))) → ArePlaced R place first bs → HasPlace (first + n) (get_or bs n [])
  placed_from n first [] h = tt
  placed_from zero first (b ∷ bs) h = subst (λ m. HasPlace m b) (omega arith) h.0
  placed_from (suc n) first (b ∷ bs) h = subst (λ m. HasPlace m (get_or bs n [])) (omega arith) (placed_from n (suc first) bs h.2)

  own_place : (n : ℕ) (bs : List (List (K × X))) → ArePlaced R place 0 bs → HasPlace n (get_or bs n [])
  own_place n bs h = subst (λ m. HasPlace m (get_or bs n [])) (omega arith) (placed_from n 0 bs h)

  replaced_from : (n first : ℕ) (bs : List (List (K × X))) (b' : List (K × X)) → ArePlaced R place first bs → HasPlace (first + n) b' → IsStrictlySortedBy R (keys_of b') → ArePlaced R place first (slice_set bs n b')
  replaced_from n first [] b' h own sorted = tt
  replaced_from zero first (b ∷ bs) b' h own sorted = (subst (λ m. HasPlace m b') (omega arith) own, sorted, h.2)
  replaced_from (suc n) first (b ∷ bs) b' h own sorted = (h.0, h.1, replaced_from n (suc first) bs b' h.2 (subst (λ m. HasPlace m b') (omega arith) own) sorted)

  replaced_placed : (n : ℕ) (bs : List (List (K × X))) (b' : List (K × X)) → ArePlaced R place 0 bs → HasPlace n b' → IsStrictlySortedBy R (keys_of b') → ArePlaced R place 0 (slice_set bs n b')
  replaced_placed n bs b' h own sorted = replaced_from n 0 bs b' h (subst (λ m. HasPlace m b') (omega arith) own) sorted

  -- ---- a change of the bucket of a key

  module _ (bs : List (List (K × X))) (h : ArePlaced R place 0 bs) (k : K) where
    abbrev own : List (K × X)
    own = get_or bs (place k) []

    pub put_placed : (v : X) → ArePlaced R place 0 (slice_set bs (place k) (insert_entry R own k v))
    put_placed v = replaced_placed (place k) bs (insert_entry R own k v) h
        (all_put R total exact (λ q. place q ≡ place k) own k v (own_place (place k) bs h) refl)
        (ordered_put R total exact own k v (bucket_sorted (place k) bs h))

    pub cut_placed : ArePlaced R place 0 (slice_set bs (place k) (remove_entry (is_at (R k)) own))
    cut_placed = replaced_placed (place k) bs (remove_entry (is_at (R k)) own) h
        (all_cut R total exact (λ q. place q ≡ place k) (is_at (R k)) own (own_place (place k) bs h))
        (ordered_cut R total exact (is_at (R k)) own (bucket_sorted (place k) bs h))

    -- where another is found at the key alone in the new bucket, so it is in the new map
    found_replaced : (b' : List (K × X)) (o : Option X) → ArePlaced R place 0 (slice_set bs (place k) b') → place k < length bs
        → ((q : K) → found q b' ≡ cond (is_eq (R q k)) o (found q own))
        → (q : K) → found q (in_order R (flat (slice_set bs (place k) b'))) ≡ cond (is_eq (R q k)) o (found q (in_order R (flat bs)))
    found_replaced b' o h' l is q = go (place q == place k) refl
      where
        new : List (List (K × X))
        new = slice_set bs (place k) b'

        there : found q (in_order R (flat new)) ≡ found q (get_or new (place q) [])
        there = found_in_bucket q new h'

        before : found q (in_order R (flat bs)) ≡ found q (get_or bs (place q) [])
        before = found_in_bucket q bs h

        go : (c : Bool) → (place q == place k) ≡ c → found q (in_order R (flat new)) ≡ cond (is_eq (R q k)) o (found q (in_order R (flat bs)))
        go true c =
            let same : place q ≡ place k = search arith in
            there
            ∙ ap (λ m. found q (get_or new m [])) same
            ∙ ap (λ b. found q b) (replaced_own (place k) bs b' l)
            ∙ is q
            ∙ ap (λ x. cond (is_eq (R q k)) o x) (ap (λ m. found q (get_or bs m [])) (sym same) ∙ sym before)
        go false c =
            let other : place q ≢ place k = search arith in
            there
            ∙ ap (λ b. found q b) (replaced_other (place k) (place q) bs b' other)
            ∙ sym before
            ∙ sym (passed (is_eq (R q k)) o (found q (in_order R (flat bs))) (apart R exact place q k (λ e. other (sym e))))

    pub put_in_buckets : (v : X) → place k < length bs → in_order R (flat (slice_set bs (place k) (insert_entry R own k v))) ≡ insert_entry R (in_order R (flat bs)) k v
    put_in_buckets v l = same_pairs R total exact _ _
        (sorted-in_order (flat (slice_set bs (place k) (insert_entry R own k v))))
        (ordered_put R total exact (in_order R (flat bs)) k v (sorted-in_order (flat bs)))
        (λ q.
        found_replaced (insert_entry R own k v) (Some v) (put_placed v) l (λ p. found_put R total exact own k v p) q
        ∙ sym (found_put R total exact (in_order R (flat bs)) k v q))

    either_side : (q : K) → is_eq (R k q) ≡ is_eq (R q k)
    either_side q = go (is_eq (R k q)) (is_eq (R q k)) refl refl
      where
        go : (b c : Bool) → is_eq (R k q) ≡ b → is_eq (R q k) ≡ c → is_eq (R k q) ≡ is_eq (R q k)
        go true c at r = let same = tells_apart exact k q at in ap (λ z. is_eq (R k z)) (sym same) ∙ ap (λ z. is_eq (R z k)) same
        go false true off at = let same = tells_apart exact q k at in ap (λ z. is_eq (R z q)) (sym same) ∙ ap (λ z. is_eq (R q z)) same
        go false false off off' = off ∙ sym off'

    pub cut_in_buckets : place k < length bs → in_order R (flat (slice_set bs (place k) (remove_entry (is_at (R k)) own))) ≡ remove_entry (is_at (R k)) (in_order R (flat bs))
    cut_in_buckets l = same_pairs R total exact _ _
        (sorted-in_order (flat (slice_set bs (place k) (remove_entry (is_at (R k)) own))))
        (ordered_cut R total exact (is_at (R k)) (in_order R (flat bs)) (sorted-in_order (flat bs)))
        (λ q.
        found_replaced (remove_entry (is_at (R k)) own) None cut_placed l
        (λ p. found_cut R total exact own k p (bucket_sorted (place k) bs h) ∙ ap (λ b. cond b None (found p own)) (either_side p)) q
        ∙ ap (λ b. cond b None (found q (in_order R (flat bs)))) (sym (either_side q))
        ∙ sym (found_cut R total exact (in_order R (flat bs)) k q (sorted-in_order (flat bs))))

    -- a key that has no bucket is not in the map
    pub none_in_buckets : length bs ≤ place k → remove_entry (is_at (R k)) (in_order R (flat bs)) ≡ in_order R (flat bs)
    none_in_buckets l = none_to_cut R total exact k (in_order R (flat bs)) (found_in_bucket k bs h ∙ ap (λ b. found k b) (bucket_past (place k) bs l))

  -- ---- how many entries have their place in a bucket

  none_of_place : (q : K) (n : ℕ) (es : List (K × X)) → HasPlace n es → place q ≢ n → found q es ≡ None
  none_of_place q n [] all other = refl
  none_of_place q n (e ∷ es) all other =
      passed (is_eq (R q e.0)) (Some e.1) (found q es) (apart R exact place q e.0 (λ s. other (sym s ∙ all.0))) ∙ none_of_place q n es all.1 other

  entries_of_bucket : (bs : List (List (K × X))) → ArePlaced R place 0 bs → (n : ℕ) → filter (λ e. place e.0 == n) (in_order R (flat bs)) ≡ get_or bs n []
  entries_of_bucket bs h n = same_pairs R total exact _ _
      (subst (IsStrictlySortedBy R) (sym (keys_kept R total exact (λ q. place q == n) whole)) (IsStrictlySortedBy-filter R (λ q. place q == n) (keys_of whole) (sorted-in_order (flat bs))))
      (bucket_sorted n bs h)
      (λ q. found_kept R total exact (λ p. place p == n) q whole ∙ go q (place q == n) refl)
    where
      whole : List (K × X)
      whole = in_order R (flat bs)

      go : (q : K) (b : Bool) → (place q == n) ≡ b → cond (place q == n) (found q whole) None ≡ found q (get_or bs n [])
      go q true is =
          let same : place q ≡ n = search arith in
          taken (place q == n) (found q whole) None is ∙ found_in_bucket q bs h ∙ ap (λ m. found q (get_or bs m [])) same
      go q false is =
          let other : place q ≢ n = search arith in
          passed (place q == n) (found q whole) None is ∙ sym (none_of_place q n (get_or bs n []) (own_place n bs h) other)

  pub size_is : (bs : List (List (K × X))) → ArePlaced R place 0 bs → (n : ℕ) → bucket_size place (in_order R (flat bs)) n ≡ length (get_or bs n [])
  size_is bs h n = ap length (entries_of_bucket bs h n)
