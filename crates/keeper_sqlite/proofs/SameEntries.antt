-- Entries in the order of their keys, where the same is found at each key, are the same.
use Rattle.std.proofs.Common.{◌≡◌, ◌⊎◌, inl, inr, List, [], ◌∷◌, true, Option, Some, None, refl, sym, ap, subst, ◌∙◌}
use Rattle.std.specs.BTreeMap.{is_at}
use Rattle.std.specs.Cmp.{IsTotalOrder}
use Rattle.std.specs.List.Sorted.{IsStrictlySortedBy}
use Rattle.std.specs.Map.{keys_of, lookup}
use Rattle.std.specs.Ordering.{is_eq, ordering_reverse}
use Rattle.std.specs.declared.cmp.Ordering.{Ordering}
use Rattle.std.specs.declared.cmp.Ordering.TheVariants.{Less, Equal, Greater}
use Rattle.std.proofs.lemmas.Cmp.{tied_itself}
use Rattle.std.proofs.lemmas.Map.{lookup-none}
use Rattle.std.proofs.lemmas.Map.Entries.{lookup_head, lookup_tail, none_below_head}
use Rattle.std.proofs.lemmas.Map.Keys.{sorted_head, sorted_tail}
use Rattle.std.proofs.lemmas.Map.Lookups.{CmpEqualImpliesEq}
use Rattle.bucket_map.proofs.Entries.{same_or_not, not_at}

some_same : {X : Type 0} (a b : X) → Some a ≡ Some b → a ≡ b
some_same a b h = cc

no_some : {X : Type 0} (x : X) → None ≡ Some x → ⊥
no_some x h = cc

module _ {K X : Type 0} (R : K → K → Ordering) (total : IsTotalOrder R) (exact : CmpEqualImpliesEq R) where
  abbrev found : K → List (K × X) → Option X
  found q es = lookup (is_at (R q)) es

  found_first : (e : K × X) (es : List (K × X)) → found e.0 (e ∷ es) ≡ Some e.1
  found_first e es = lookup_head (is_at (R e.0)) e es (ap is_eq (tied_itself total e.0))

  not_below : (q : K) (e : K × X) (es : List (K × X)) → IsStrictlySortedBy R (keys_of (e ∷ es)) → R q e.0 ≡ Less → found q (e ∷ es) ≡ None
  not_below q e es sorted less = lookup-none (is_at (R q)) (e ∷ es) (none_below_head total q e es sorted less)

  not_later : (e : K × X) (es : List (K × X)) → IsStrictlySortedBy R (keys_of (e ∷ es)) → found e.0 es ≡ None
  not_later e [] sorted = refl
  not_later e (f ∷ fs) sorted =
      not_below e.0 f fs (sorted_tail R e.0 (keys_of (f ∷ fs)) sorted) (sorted_head R e.0 (keys_of (f ∷ fs)) sorted).0

  later_same : (d e : K × X) (ds es : List (K × X)) → IsStrictlySortedBy R (keys_of (d ∷ ds)) → IsStrictlySortedBy R (keys_of (e ∷ es)) → ((q : K) → found q (d ∷ ds) ≡ found q (e ∷ es)) → d.0 ≡ e.0 → (q : K) → found q ds ≡ found q es
  later_same d e ds es first second same key q = elim (same_or_not R total exact q d.0) [
    | inl here ↦
        subst (λ (k : K). found k ds ≡ found k es) (sym here)
        (not_later d ds first ∙ sym (subst (λ (k : K). found k es ≡ None) (sym key) (not_later e es second)))
    | inr other ↦
        sym (lookup_tail (is_at (R q)) d ds (not_at R total exact q d.0 other)) ∙ same q
        ∙ lookup_tail (is_at (R q)) e es (not_at R total exact q e.0 (λ is. other (is ∙ sym key)))
  ]

  pub same_entries : (ds es : List (K × X)) → IsStrictlySortedBy R (keys_of ds) → IsStrictlySortedBy R (keys_of es) → ((q : K) → found q ds ≡ found q es) → ds ≡ es
  same_entries [] [] first second same = refl
  same_entries [] (e ∷ es) first second same = absurd (no_some e.1 (same e.0 ∙ found_first e es))
  same_entries (d ∷ ds) [] first second same = absurd (no_some d.1 (sym (same d.0) ∙ found_first d ds))
  same_entries (d ∷ ds) (e ∷ es) first second same =
      by_order (R d.0 e.0) refl
      (λ key. same_entries ds es (sorted_tail R d.0 (keys_of ds) first) (sorted_tail R e.0 (keys_of es) second) (later_same d e ds es first second same key))
    where
      equal : (d.0 ≡ e.0 → ds ≡ es) → d.0 ≡ e.0 → d ∷ ds ≡ e ∷ es
      equal rest key =
          let value : d.1 ≡ e.1 = some_same d.1 e.1 (sym (found_first d ds) ∙ same d.0 ∙ subst (λ (k : K). found k (e ∷ es) ≡ Some e.1) (sym key) (found_first e es)) in
          ap (λ (k : K). (k, d.1) ∷ ds) key ∙ ap (λ (v : X). (e.0, v) ∷ ds) value ∙ ap (λ l. e ∷ l) (rest key)

      by_order : (o : Ordering) → R d.0 e.0 ≡ o → (d.0 ≡ e.0 → ds ≡ es) → d ∷ ds ≡ e ∷ es
      by_order Less is rest = absurd (no_some d.1 (sym (not_below d.0 e es second is) ∙ sym (same d.0) ∙ found_first d ds))
      by_order Equal is rest = equal rest (exact d.0 e.0 is)
      by_order Greater is rest =
          absurd (no_some e.1 (sym (not_below e.0 d ds first (total.antisymm e.0 d.0 ∙ ap ordering_reverse is)) ∙ same e.0 ∙ found_first e es))
