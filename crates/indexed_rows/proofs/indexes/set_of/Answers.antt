use Rattle.std.proofs.Common.{◌≡◌, ◌∙◌, sym, subst}
use Rattle.std.specs.Prelude.{IfOk}
use Rattle.std.specs.List.Sorted.{IsStrictlySortedBy}
use Rattle.std.proofs.lemmas.List.Filters.{dedup_is}
use Rattle.index_law.proofs.Orders.{in_order_sorted}
use Rattle.indexed_rows.proofs.Walked.{kept_in_order, index_of_all}
use Rattle.indexed_rows.proofs.indexes.set_of.Goals as goal

pub of-requires : goal.of-requires
of-requires g c =
    let R = g.K.Ord.cmp in
    let kept = dedup_is g.K.PartialEq.eq _ _ c.dedup.ensures.filtered ∙ kept_in_order g.met.K.Ord.total g.met.K.Key.exact g.met.K.Ord.matches_eq c.args.keys.items _ c.sort_unstable.ensures.permutation c.sort_unstable.ensures.sorted in
    subst (IsStrictlySortedBy R) (sym (c.as_slice.ensures.value ∙ kept)) (in_order_sorted g.met.K.Ord.total g.met.K.Key.exact c.args.keys.items)

pub returns : goal.returns
returns g c =
    let R = g.K.Ord.cmp in
    let kept = dedup_is g.K.PartialEq.eq _ _ c.dedup.ensures.filtered ∙ kept_in_order g.met.K.Ord.total g.met.K.Key.exact g.met.K.Ord.matches_eq c.args.keys.items _ c.sort_unstable.ensures.permutation c.sort_unstable.ensures.sorted in
    λ rows are.
    let all = c.as_slice.ensures.value ∙ kept ∙ index_of_all g.met.K.Ord.total g.met.K.Key.exact g.K.Key.keys rows c.args.keys.items are in
    subst (λ l. IfOk c.of.result (λ s. s ≡ l)) all c.of.ensures
