-- The members whose keys are known, and the least of the other keys, as members are put in one by one.
use Rattle.std.proofs.Common.{◌≡◌, ℕ, List, Bool, true, false, cond, Some, Ordering, Less, Equal, Greater, refl, sym, ap, ◌∙◌}
use Rattle.std.specs.List.Sorted.{IsStrictlySortedBy}
use Rattle.std.proofs.lemmas.Cmp.{nat_list_cmp_total}
use Rattle.std.specs.Ordering.{match_ordering, ordering_reverse}
use Rattle.serde_json.specs.Data.{Data, null, Members, no_members, member, put}
use Rattle.json_keys.specs.Order.{IsInOrder}
use Rattle.json_keys.proofs.Held.{equal_texts}
use Rattle.sent_objects.specs.Brief.{every, known_members, kept, first_unknown, with_least, lower}
use Rattle.sent_objects.proofs.InOrder.{text_cmp, IsBelow, below_more, turned, put_first}

back : (k l : List ℕ) → text_cmp k l ≡ Less → text_cmp l k ≡ Greater
back k l is = nat_list_cmp_total.antisymm l k ∙ ap ordering_reverse is

module _ (known : List ℕ → Bool) where
  module _ (brief : List ℕ → Data → Data) where
    -- ---- a key that is not known changes nothing

    skipped_at : (o : Ordering) (k l : List ℕ) (d e : Data) (ms : Members) → text_cmp k l ≡ o → known k ≡ false → known_members known brief (put k d ms) ≡ known_members known brief ms
        → known_members known brief (match_ordering o (member k d (member l e ms)) (member l d ms) (member l e (put k d ms))) ≡ known_members known brief (member l e ms)
    skipped_at Less k l d e ms is other more = rw other
    skipped_at Equal k l d e ms is other more = let same : known l ≡ false = ap known (sym (equal_texts k l is)) ∙ other in rw same
    skipped_at Greater k l d e ms is other more = ap (λ xs. cond (known l) (member l (brief l e) xs) xs) more

    pub skipped : (k : List ℕ) (d : Data) (ms : Members) → known k ≡ false → known_members known brief (put k d ms) ≡ known_members known brief ms
    skipped k d no_members other = rw other
    skipped k d (member l e ms) other = skipped_at (text_cmp k l) k l d e ms refl other (skipped k d ms other)

    -- ---- one that is known is put among those that are

    below_at : (b : Bool) (q l : List ℕ) (e : Data) (ms rest : Members) → IsBelow q (member l e ms) → IsBelow q rest → IsBelow q (cond b (member l (brief l e) rest) rest)
    below_at true q l e ms rest below more = (below.0, more)
    below_at false q l e ms rest below more = more

    pub below_known : (q : List ℕ) (ms : Members) → IsBelow q ms → IsBelow q (known_members known brief ms)
    below_known q no_members below = tt
    below_known q (member l e ms) below = below_at (known l) q l e ms (known_members known brief ms) below (below_known q ms below.1)

    added_at : (o : Ordering) (b : Bool) (k l : List ℕ) (d e : Data) (ms : Members) → text_cmp k l ≡ o → known l ≡ b → known k ≡ true → IsInOrder (member l e ms)
        → known_members known brief (put k d ms) ≡ put k (brief k d) (known_members known brief ms)
        → known_members known brief (match_ordering o (member k d (member l e ms)) (member l d ms) (member l e (put k d ms))) ≡ put k (brief k d) (known_members known brief (member l e ms))
    unfolding IsStrictlySortedBy
    added_at Less b k l d e ms is at here order more =
        let below : IsBelow k (member l e ms) = (is, below_more k l ms is order.0) in
        rw here (sym (put_first k (brief k d) (known_members known brief (member l e ms)) (below_known k (member l e ms) below)))
    added_at Equal true k l d e ms is at here order more = rw (at, is) (ap (λ q. member l (brief q d) (known_members known brief ms)) (sym (equal_texts k l is)))
    added_at Equal false k l d e ms is at here order more =
        let never : true ≡ false = sym here ∙ ap known (equal_texts k l is) ∙ at in absurd (cc)
    added_at Greater true k l d e ms is at here order more = rw (at, is, more) refl
    added_at Greater false k l d e ms is at here order more = rw (at, more) refl

    pub added : (k : List ℕ) (d : Data) (ms : Members) → known k ≡ true → IsInOrder ms → known_members known brief (put k d ms) ≡ put k (brief k d) (known_members known brief ms)
    unfolding IsStrictlySortedBy
    added k d no_members here order = rw here
    added k d (member l e ms) here order = added_at (text_cmp k l) (known l) k l d e ms refl refl here order (added k d ms here order.1)

    -- ---- at the end the least of the others is put in

    past_at : (b : Bool) (l m : List ℕ) (x : Data) (ms xs : Members) → text_cmp l m ≡ Less
        → with_least (first_unknown known ms) (member l x xs) ≡ member l x (with_least (first_unknown known ms) xs)
        → with_least (cond b (first_unknown known ms) (Some m)) (member l x xs) ≡ member l x (with_least (cond b (first_unknown known ms) (Some m)) xs)
    past_at true l m x ms xs is more = more
    past_at false l m x ms xs is more = rw (back l m is) refl

    past : (l : List ℕ) (x : Data) (ms xs : Members) → IsBelow l ms → with_least (first_unknown known ms) (member l x xs) ≡ member l x (with_least (first_unknown known ms) xs)
    past l x no_members xs below = refl
    past l x (member m e ms) xs below = past_at (known m) l m x ms xs below.0 (past l x ms xs below.1)

    completed_at : (b : Bool) (l : List ℕ) (e : Data) (ms : Members) → known l ≡ b → IsInOrder (member l e ms)
        → with_least (first_unknown known ms) (known_members known brief ms) ≡ kept known brief ms
        → with_least (first_unknown known (member l e ms)) (known_members known brief (member l e ms)) ≡ kept known brief (member l e ms)
    unfolding IsStrictlySortedBy
    completed_at true l e ms at order more = rw at (past l (brief l e) ms (known_members known brief ms) order.0 ∙ ap (member l (brief l e)) more)
    completed_at false l e ms at order more = rw at (put_first l null (known_members known brief ms) (below_known l ms order.0))

    pub completed : (ms : Members) → IsInOrder ms → with_least (first_unknown known ms) (known_members known brief ms) ≡ kept known brief ms
    unfolding IsStrictlySortedBy
    completed no_members order = refl
    completed (member l e ms) order = completed_at (known l) l e ms refl order (completed ms order.1)

  -- ---- the least of the other keys

  same_least_at : (o : Ordering) (k l : List ℕ) (d e : Data) (ms : Members) → text_cmp k l ≡ o → known k ≡ true → first_unknown known (put k d ms) ≡ first_unknown known ms
      → first_unknown known (match_ordering o (member k d (member l e ms)) (member l d ms) (member l e (put k d ms))) ≡ first_unknown known (member l e ms)
  same_least_at Less k l d e ms is here more = rw here
  same_least_at Equal k l d e ms is here more = refl
  same_least_at Greater k l d e ms is here more = ap (λ x. cond (known l) x (Some l)) more

  pub same_least : (k : List ℕ) (d : Data) (ms : Members) → known k ≡ true → first_unknown known (put k d ms) ≡ first_unknown known ms
  same_least k d no_members here = rw here
  same_least k d (member l e ms) here = same_least_at (text_cmp k l) k l d e ms refl here (same_least k d ms here)

  above_at : (b : Bool) (k l : List ℕ) (ms : Members) → text_cmp k l ≡ Less → lower (first_unknown known ms) k ≡ k → lower (cond b (first_unknown known ms) (Some l)) k ≡ k
  above_at true k l ms is more = more
  above_at false k l ms is more = rw (back k l is) refl

  above : (k : List ℕ) (ms : Members) → IsBelow k ms → lower (first_unknown known ms) k ≡ k
  above k no_members below = refl
  above k (member l e ms) below = above_at (known l) k l ms below.0 (above k ms below.1)

  lowered_at : (o : Ordering) (b : Bool) (k l : List ℕ) (d e : Data) (ms : Members) → text_cmp k l ≡ o → known l ≡ b → known k ≡ false → IsInOrder (member l e ms)
      → first_unknown known (put k d ms) ≡ Some (lower (first_unknown known ms) k)
      → first_unknown known (match_ordering o (member k d (member l e ms)) (member l d ms) (member l e (put k d ms))) ≡ Some (lower (first_unknown known (member l e ms)) k)
  unfolding IsStrictlySortedBy
  lowered_at Less b k l d e ms is at other order more = rw other (ap Some (sym (above k (member l e ms) (is, below_more k l ms is order.0))))
  lowered_at Equal true k l d e ms is at other order more =
      let never : true ≡ false = sym at ∙ ap known (sym (equal_texts k l is)) ∙ other in absurd (cc)
  lowered_at Equal false k l d e ms is at other order more =
      let same : text_cmp l k ≡ Equal = nat_list_cmp_total.antisymm l k ∙ ap ordering_reverse is in
      rw (at, same) (ap Some (sym (equal_texts k l is)))
  lowered_at Greater true k l d e ms is at other order more = rw at more
  lowered_at Greater false k l d e ms is at other order more = rw (at, turned k l is) refl

  pub lowered : (k : List ℕ) (d : Data) (ms : Members) → known k ≡ false → IsInOrder ms → first_unknown known (put k d ms) ≡ Some (lower (first_unknown known ms) k)
  unfolding IsStrictlySortedBy
  lowered k d no_members other order = rw other refl
  lowered k d (member l e ms) other order = lowered_at (text_cmp k l) (known l) k l d e ms refl refl other order (lowered k d ms other order.1)

-- where each key is known all are kept
pub all_known : (brief : List ℕ → Data → Data) (ms : Members) → known_members every brief ms ≡ kept every brief ms
all_known brief no_members = refl
all_known brief (member l e ms) = ap (member l (brief l e)) (all_known brief ms)
