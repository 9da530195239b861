-- A bucket that is read at the place of a key, and the map once another stands there.
use Rattle.std.proofs.Common.{ℕ, zero, suc, List, [], ◌∷◌, refl, ◌≡◌, ◌≤◌, ◌<◌, ◌+◌, length, get_or, sym, ◌∙◌, ap, subst, arith}
use Rattle.std.specs.Prelude.{slice_set}
use Rattle.std.specs.List.Sorted.{IsStrictlySortedBy}
use Rattle.std.specs.Cmp.{IsTotalOrder}
use Rattle.std.specs.declared.cmp.Ordering.{Ordering}
use Rattle.std.specs.Map.{remove_entry, keys_of}
use Rattle.std.specs.BTreeMap.{is_at, insert_entry}
use Rattle.std.proofs.lemmas.List.{get_or_read}
use Rattle.std.proofs.lemmas.Map.Lookups.{CmpEqualImpliesEq}
use Rattle.bucket_map.specs.Buckets.{flat, in_order, ArePlaced, bucket_size}
use Rattle.bucket_map.proofs.InBuckets.{bucket_sorted, bucket_within, size_is, size_replaced, put_placed, cut_placed, put_in_buckets, cut_in_buckets}

same_set : {A : Type 0} (xs : List A) (i : ℕ) (d : A) → slice_set xs i (get_or xs i d) ≡ xs
same_set [] i d = refl
same_set (y ∷ xs) zero d = refl
same_set (y ∷ xs) (suc i) d = ap (λ l. y ∷ l) (same_set xs i d)

module _ {K X : Type 0} (R : K → K → Ordering) (total : IsTotalOrder R) (exact : CmpEqualImpliesEq R) (place : K → ℕ) (bs : List (List (K × X))) (h : ArePlaced R place 0 bs) (k : K) (i : ℕ) (x : List (K × X)) (at : i ≡ place k) (within : i < length bs) (is : x ≡ get_or bs i x) where
  own_is : x ≡ get_or bs (place k) []
  own_is = get_or_read bs i x within is [] ∙ ap (λ j. get_or bs j []) at

  own_within : place k < length bs
  own_within = subst (λ j. j < length bs) at within

  pub own_sorted : IsStrictlySortedBy R (keys_of x)
  own_sorted = subst (λ b. IsStrictlySortedBy R (keys_of b)) (sym own_is) (bucket_sorted R total exact place (place k) bs h)

  pub own_size : (es : List (K × X)) → in_order R (flat bs) ≡ es → length x ≡ bucket_size place es (place k)
  own_size es map = ap length own_is ∙ sym (size_is R total exact place bs h (place k)) ∙ ap (λ l. bucket_size place l (place k)) map

  pub cost_of_bucket : (es : List (K × X)) → in_order R (flat bs) ≡ es → (old new more : ℕ) → new ≤ old + (length x + more) → new ≤ old + (bucket_size place es (place k) + more)
  cost_of_bucket es map old new more cost = subst (λ m. new ≤ old + (m + more)) (own_size es map) cost

  pub own_part : (size : ℕ) → size ≡ length (flat bs) → length x ≤ size
  own_part size all = let one = bucket_within (place k) bs in let own = ap length own_is in omega arith

  pub new_size : (b' : List (K × X)) (size size' : ℕ) → size ≡ length (flat bs) → size' + length x ≡ size + length b' → size' ≡ length (flat (slice_set bs i b'))
  new_size b' size size' all changed =
      let replaced = size_replaced (place k) bs b' own_within in
      let own = ap length own_is in
      let there = ap (λ j. length (flat (slice_set bs j b'))) at in
      omega arith

  -- a bucket that is put in its own place again
  pub kept : (b' : List (K × X)) → b' ≡ x → slice_set bs i b' ≡ bs
  kept b' same = ap (λ b. slice_set bs i b) (same ∙ is) ∙ same_set bs i x

  module _ (b' : List (K × X)) where
    pub placed_put : (v : X) → b' ≡ insert_entry R x k v → ArePlaced R place 0 (slice_set bs i b')
    placed_put v new =
        subst (ArePlaced R place 0) ((λ j. slice_set bs (sym at j) (insert_entry R (sym own_is j) k v)) ∙ ap (λ b. slice_set bs i b) (sym new)) (put_placed R total exact place bs h k v)

    pub map_put : (v : X) → b' ≡ insert_entry R x k v → (es : List (K × X)) → in_order R (flat bs) ≡ es → in_order R (flat (slice_set bs i b')) ≡ insert_entry R es k v
    map_put v new es map =
        ap (λ b. in_order R (flat (slice_set bs i b))) new
        ∙ (λ j. in_order R (flat (slice_set bs (at j) (insert_entry R (own_is j) k v))))
        ∙ put_in_buckets R total exact place bs h k v own_within
        ∙ ap (λ l. insert_entry R l k v) map

    pub placed_cut : b' ≡ remove_entry (is_at (R k)) x → ArePlaced R place 0 (slice_set bs i b')
    placed_cut new =
        subst (ArePlaced R place 0) ((λ j. slice_set bs (sym at j) (remove_entry (is_at (R k)) (sym own_is j))) ∙ ap (λ b. slice_set bs i b) (sym new)) (cut_placed R total exact place bs h k)

    pub map_cut : b' ≡ remove_entry (is_at (R k)) x → (es : List (K × X)) → in_order R (flat bs) ≡ es → in_order R (flat (slice_set bs i b')) ≡ remove_entry (is_at (R k)) es
    map_cut new es map =
        ap (λ b. in_order R (flat (slice_set bs i b))) new
        ∙ (λ j. in_order R (flat (slice_set bs (at j) (remove_entry (is_at (R k)) (own_is j)))))
        ∙ cut_in_buckets R total exact place bs h k own_within
        ∙ ap (λ l. remove_entry (is_at (R k)) l) map
