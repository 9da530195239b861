-- Sets to which something was added.
use Rattle.std.proofs.Common.{List, [], ◌∷◌, ◌≡◌, ◌↔◌, ◌⊎◌, sym, subst, inl, inr, Contains}
use Rattle.cacheability.specs.InOrder.{AddsItem, HasBoth}
use Rattle.cache_contexts.proofs.Tests.{at_head, at_tail, head_or_tail, nowhere}

is_head : {A : Type 0} (x : A) (xs : List A) (y : A) → y ≡ x → Contains (x ∷ xs) y
is_head x xs y e = subst (Contains (x ∷ xs)) (sym e) (at_head x xs)

-- three are added, one after the other
pub three_added : {A : Type 0} (old one two new : List A) (x y z : A) → AddsItem old x one → AddsItem one y two → AddsItem two z new → HasBoth old (x ∷ y ∷ z ∷ []) new
three_added {A} old one two new x y z first second third item = (there, back)
  where
    there : Contains new item → Contains old item ⊎ Contains (x ∷ y ∷ z ∷ []) item
    there h = elim ((third item).0 h) [
      | inl g ↦ elim ((second item).0 g) [
        | inl k ↦ elim ((first item).0 k) [ inl o ↦ inl o | inr e ↦ inr (is_head x (y ∷ z ∷ []) item e) ]
        | inr e ↦ inr (at_tail x (y ∷ z ∷ []) item (is_head y (z ∷ []) item e))
      ]
      | inr e ↦ inr (at_tail x (y ∷ z ∷ []) item (at_tail y (z ∷ []) item (is_head z [] item e)))
    ]

    last : Contains (z ∷ []) item → Contains new item
    last h = elim (head_or_tail z [] item h) [ inl e ↦ (third item).1 (inr e) | inr g ↦ nowhere item g ]

    middle : Contains (y ∷ z ∷ []) item → Contains new item
    middle h = elim (head_or_tail y (z ∷ []) item h) [ inl e ↦ (third item).1 (inl ((second item).1 (inr e))) | inr g ↦ last g ]

    back : Contains old item ⊎ Contains (x ∷ y ∷ z ∷ []) item → Contains new item
    back (inl h) = (third item).1 (inl ((second item).1 (inl ((first item).1 (inl h)))))
    back (inr h) = elim (head_or_tail x (y ∷ z ∷ []) item h) [ inl e ↦ (third item).1 (inl ((second item).1 (inl ((first item).1 (inr e))))) | inr g ↦ middle g ]

-- one is added, then others
pub one_and_others : {A : Type 0} (old one new others : List A) (x : A) → AddsItem old x one → HasBoth one others new
    → (item : A) → Contains new item ↔ ((Contains old item ⊎ (item ≡ x)) ⊎ Contains others item)
one_and_others old one new others x first second item = (
  λ h. elim ((second item).0 h) [ inl g ↦ inl ((first item).0 g) | inr g ↦ inr g ],
  λ h. elim h [ inl g ↦ (second item).1 (inl ((first item).1 g)) | inr g ↦ (second item).1 (inr g) ],
)
