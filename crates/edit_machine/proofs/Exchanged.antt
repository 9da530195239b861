-- A key of a map in order that is there gets another value: there are as many entries, and what is gathered along them stays
-- where it is not of the value.
use Rattle.std.proofs.Common.{suc, List, [], ◌∷◌, ◌≡◌, length, map, refl, sym, ◌∙◌, ap, subst, true, false, Option, Some, None}
use Rattle.std.specs.Prelude.{option_map, is_some}
use Rattle.std.specs.List.{cons_option, filter_map}
use Rattle.std.specs.List.Sorted.{IsStrictlySortedBy}
use Rattle.std.specs.Ordering.{match_ordering, is_eq}
use Rattle.std.specs.declared.cmp.Ordering.{Ordering}
use Rattle.std.specs.declared.cmp.Ordering.TheVariants.{Less, Equal, Greater}
use Rattle.std.specs.Cmp.{IsTotalOrder}
use Rattle.std.specs.Map.{lookup, keys_of}
use Rattle.std.specs.BTreeMap.{is_at, insert_entry}
use Rattle.std.proofs.lemmas.Map.{lookup-none}
use Rattle.std.proofs.lemmas.Map.Entries.{none_below_head}
use Rattle.std.proofs.lemmas.Map.Keys.{sorted_tail}
use Rattle.std.proofs.lemmas.Map.Lookups.{CmpEqualImpliesEq}
use Rattle.state_commits.proofs.Entries.{taken, passed}

some_is_none : {A G : Type 0} (x : A) → Some x ≡ None → G
some_is_none x h = absurd (no (ap is_some h))
  where
    no : true ≡ false → ⊥
    no e = cc

same_value : {X : Type 0} (a b : X) → Some a ≡ Some b → a ≡ b
same_value a b e = cc

module _ {K X : Type 0} (R : K → K → Ordering) (total : IsTotalOrder R) (exact : CmpEqualImpliesEq R) where
  -- a key that is below the first is not there
  not_below : {G : Type 0} (e : K × X) (es : List (K × X)) (k : K) (old : X) → IsStrictlySortedBy R (keys_of (e ∷ es)) → lookup (is_at (R k)) (e ∷ es) ≡ Some old → R k e.0 ≡ Less → G
  not_below e es k old sorted at less = some_is_none old (sym at ∙ lookup-none (is_at (R k)) (e ∷ es) (none_below_head total k e es sorted less))

  further : (e : K × X) (es : List (K × X)) (k : K) (old : X) → lookup (is_at (R k)) (e ∷ es) ≡ Some old → R k e.0 ≡ Greater → lookup (is_at (R k)) es ≡ Some old
  further e es k old at greater = sym (passed (is_eq (R k e.0)) (Some e.1) (lookup (is_at (R k)) es) (ap is_eq greater)) ∙ at

  pub as_many : (es : List (K × X)) (k : K) (old new : X) → IsStrictlySortedBy R (keys_of es) → lookup (is_at (R k)) es ≡ Some old → length (insert_entry R es k new) ≡ length es
  as_many [] k old new sorted at = some_is_none old (sym at)
  as_many (e ∷ es) k old new sorted at = go (R k e.0) refl (λ greater. as_many es k old new (sorted_tail R e.0 (keys_of es) sorted) (further e es k old at greater))
    where
      go : (o : Ordering) → R k e.0 ≡ o → (R k e.0 ≡ Greater → length (insert_entry R es k new) ≡ length es)
          → length (match_ordering o ((k, new) ∷ e ∷ es) ((e.0, new) ∷ es) (e ∷ insert_entry R es k new)) ≡ length (e ∷ es)
      go Less is rest = not_below e es k old sorted at is
      go Equal is rest = refl
      go Greater is rest = ap suc (rest is)

  module _ {Y Z : Type 0} (f : K × X → Option Y) (h : Y → Z) where
    shown : (o : Option Y) (ys : List Y) → map h (cons_option o ys) ≡ cons_option (option_map h o) (map h ys)
    shown None ys = refl
    shown (Some y) ys = refl

    pub gathered_same : (es : List (K × X)) (k : K) (old new : X) → IsStrictlySortedBy R (keys_of es) → lookup (is_at (R k)) es ≡ Some old
        → option_map h (f (k, new)) ≡ option_map h (f (k, old)) → map h (filter_map f (insert_entry R es k new)) ≡ map h (filter_map f es)
    gathered_same [] k old new sorted at same = some_is_none old (sym at)
    gathered_same (e ∷ es) k old new sorted at same = go (R k e.0) refl (λ greater. gathered_same es k old new (sorted_tail R e.0 (keys_of es) sorted) (further e es k old at greater) same)
      where
        here : k ≡ e.0 → e.1 ≡ old → option_map h (f (e.0, new)) ≡ option_map h (f e)
        here key value = subst (λ (q : K). option_map h (f (q, new)) ≡ option_map h (f (q, e.1))) key (subst (λ (v : X). option_map h (f (k, new)) ≡ option_map h (f (k, v))) (sym value) same)

        go : (o : Ordering) → R k e.0 ≡ o → (R k e.0 ≡ Greater → map h (filter_map f (insert_entry R es k new)) ≡ map h (filter_map f es))
            → map h (filter_map f (match_ordering o ((k, new) ∷ e ∷ es) ((e.0, new) ∷ es) (e ∷ insert_entry R es k new))) ≡ map h (filter_map f (e ∷ es))
        go Less is rest = not_below e es k old sorted at is
        go Equal is rest =
            let value : e.1 ≡ old = same_value e.1 old (sym (taken (is_eq (R k e.0)) (Some e.1) (lookup (is_at (R k)) es) (ap is_eq is)) ∙ at) in
            shown (f (e.0, new)) (filter_map f es) ∙ ap (λ o. cons_option o (map h (filter_map f es))) (here (exact k e.0 is) value) ∙ sym (shown (f e) (filter_map f es))
        go Greater is rest =
            shown (f e) (filter_map f (insert_entry R es k new)) ∙ ap (cons_option (option_map h (f e))) (rest is) ∙ sym (shown (f e) (filter_map f es))
