-- Members that are put in stay in the order of their keys.
use Rattle.std.proofs.Common.{◌≡◌, ℕ, List, Ordering, Less, Equal, Greater, refl, ap, ◌∙◌, nat_cmp}
use Rattle.std.proofs.lemmas.Cmp.{nat_list_cmp_total}
use Rattle.std.specs.Cmp.Lexicographic.{slice_cmp}
use Rattle.std.specs.List.{AllByRecursion}
use Rattle.std.specs.List.Sorted.{IsStrictlySortedBy}
use Rattle.std.specs.Ordering.{match_ordering, ordering_reverse}
use Rattle.serde_json.specs.Data.{Data, Members, no_members, member, put}
use Rattle.json_keys.specs.Order.{names_of, IsInOrder}

abbrev pub text_cmp : List ℕ → List ℕ → Ordering
text_cmp = slice_cmp nat_cmp

-- a name is below all of them
abbrev pub IsBelow : List ℕ → Members → Type 0
IsBelow k ms = AllByRecursion (λ l. text_cmp k l ≡ Less) (names_of ms)

-- what is below the first is below those above it
pub below_more : (q k : List ℕ) (ms : Members) → text_cmp q k ≡ Less → IsBelow k ms → IsBelow q ms
below_more q k no_members h more = tt
below_more q k (member l d ms) h more = (nat_list_cmp_total.trans q k l h more.0, below_more q k ms h more.1)

pub turned : (k l : List ℕ) → text_cmp k l ≡ Greater → text_cmp l k ≡ Less
turned k l h = nat_list_cmp_total.antisymm l k ∙ ap ordering_reverse h

below_put_at : (o : Ordering) (q k l : List ℕ) (d e : Data) (ms : Members) → text_cmp q k ≡ Less → IsBelow q (member l e ms) → IsBelow q (put k d ms)
    → IsBelow q (match_ordering o (member k d (member l e ms)) (member l d ms) (member l e (put k d ms)))
below_put_at Less q k l d e ms h below more = (h, below)
below_put_at Equal q k l d e ms h below more = below
below_put_at Greater q k l d e ms h below more = (below.0, more)

below_put : (q k : List ℕ) (d : Data) (ms : Members) → text_cmp q k ≡ Less → IsBelow q ms → IsBelow q (put k d ms)
below_put q k d no_members h below = (h, tt)
below_put q k d (member l e ms) h below = below_put_at (text_cmp k l) q k l d e ms h below (below_put q k d ms h below.1)

in_order_at : (o : Ordering) (k l : List ℕ) (d e : Data) (ms : Members) → text_cmp k l ≡ o → IsInOrder (member l e ms) → IsInOrder (put k d ms)
    → IsInOrder (match_ordering o (member k d (member l e ms)) (member l d ms) (member l e (put k d ms)))
unfolding IsStrictlySortedBy
in_order_at Less k l d e ms is order more = ((is, below_more k l ms is order.0), order)
in_order_at Equal k l d e ms is order more = order
in_order_at Greater k l d e ms is order more = (below_put l k d ms (turned k l is) order.0, more)

pub in_order_put : (k : List ℕ) (d : Data) (ms : Members) → IsInOrder ms → IsInOrder (put k d ms)
unfolding IsStrictlySortedBy
in_order_put k d no_members order = (tt, tt)
in_order_put k d (member l e ms) order = in_order_at (text_cmp k l) k l d e ms refl order (in_order_put k d ms order.1)

pub none_in_order : IsInOrder no_members
unfolding IsStrictlySortedBy
none_in_order = tt

-- what is below all is put first
pub put_first : (k : List ℕ) (d : Data) (ms : Members) → IsBelow k ms → put k d ms ≡ member k d ms
put_first k d no_members below = refl
put_first k d (member l e ms) below = ap (λ o. match_ordering o (member k d (member l e ms)) (member l d ms) (member l e (put k d ms))) below.0
