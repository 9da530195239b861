use Rattle.std.proofs.Common.{rules, List, [], ◌≡◌, ◌++◌, ◌∷◌, ◌∙◌, false, sym, ap, subst}
use Rattle.std.specs.Prelude.{not}
use Rattle.std.specs.List.{filter}
use Rattle.std.specs.List.Sorted.{IsStrictlySortedBy}
use Rattle.std.specs.Ordering.{is_lt}
use Rattle.std.proofs.lemmas.Map.Keys.{sorted_tail}
use Rattle.shared_set.specs.Keys.{flat, is_up_to}
use Rattle.shared_set.proofs.Ends.{none_up_to}
use Rattle.shared_set.proofs.within.WithinIterator.next.Goals as goal

pub invariant_of-self : goal.invariant_of-self
invariant_of-self g c =
    let R = g.K.Ord.cmp in
    let k = c.in-Some.key.now in
    let others = c.in-Some.others.now in
    let rest = flat c.begun.result.1.now in
    let split : c.begun.result.0.now ≡ k ∷ others = search rules in
    let parted : k ∷ (others ++ rest) ≡ c.self.inside.keys.now ++ flat c.self.inside.rest.now = ap (λ l. l ++ rest) (sym split) ∙ c.begun.ensures.same in
    sorted_tail R k (others ++ rest) (subst (IsStrictlySortedBy R) (sym parted) c.self.invariant)

pub returns-then-is_lt-clause-steps : goal.returns-then-is_lt-clause-steps
returns-then-is_lt-clause-steps g c =
    let R = g.K.Ord.cmp in
    let B = g.S.Span.beside in
    let s = c.self.inside.span in
    let k = c.in-Some.key.now in
    let others = c.in-Some.others.now in
    let rest = flat c.begun.result.1.now in
    let split : c.begun.result.0.now ≡ k ∷ others = search rules in
    let parted : k ∷ (others ++ rest) ≡ c.self.inside.keys.now ++ flat c.self.inside.rest.now = ap (λ l. l ++ rest) (sym split) ∙ c.begun.ensures.same in
    let ordered : IsStrictlySortedBy R (k ∷ (others ++ rest)) = subst (IsStrictlySortedBy R) (sym parted) c.self.invariant in
    let past : is_up_to B s k ≡ false = ap not (ap is_lt (sym c.beside.ensures) ∙ sym c.is_lt.ensures ∙ c.if-is_lt.true) in
    let none : filter (is_up_to B s) (k ∷ (others ++ rest)) ≡ [] = none_up_to B s (g.met.S.Span.behind s) k (others ++ rest) ordered past in
    let empty : c.args.self.now ≡ [] = sym c.self.view_is ∙ ap (filter (is_up_to B s)) (sym parted) ∙ none in
    (empty, empty)
