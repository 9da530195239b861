use Rattle.std.proofs.Common.{refl, sym, subst}
use Rattle.std.proofs.lemmas.Bool.{both_ways}
use Rattle.std.proofs.lemmas.List.Sorted.{All-permutation, IsPermutation-sym}
use Rattle.content_rows.specs.ValidRow.{IsValidRow}
use Rattle.indexed_rows.proofs.RightRows.{AllRight, One, none_left, first_right, first_wrong}
use Rattle.indexed_rows.proofs.rows.Rows.are_right.Goals as goal

pub rows-init : goal.rows-init
rows-init c =
    let is = c.into_iter-cell-iterator.ensures.into_iter_gives in
    let moved = c.each-cell-items.ensures in (
      λ h. All-permutation One _ _ (IsPermutation-sym _ _ moved) (subst AllRight is h),
      λ h. subst AllRight (sym is) (All-permutation One _ _ moved h),
    )

pub returns-then-not-is_right : goal.returns-then-not-is_right
returns-then-not-is_right c =
    let wrong : ¬ (IsValidRow c.in-Some.cell.now c.in-Some.row.now) = λ right. both_ways c.is_right.result c.if-not-is_right.true (c.is_right.ensures.1 right) in (
      λ e. cc,
      λ all. absurd (first_wrong c.rows.cell-iterator c.next.new.self (c.in-Some.cell.now, c.in-Some.row.now) c.in-Some.ensures.steps wrong (c.rows.invariant.1 all)),
    )

pub rows-preserved : goal.rows-preserved
rows-preserved c =
    let right : IsValidRow c.in-Some.cell.now c.in-Some.row.now = c.is_right.ensures.0 c.if-not-is_right.false in
    let one = first_right c.rows.cell-iterator c.next.new.self (c.in-Some.cell.now, c.in-Some.row.now) c.in-Some.ensures.steps right in
    (λ h. c.rows.invariant.0 (one.0 h), λ h. one.1 (c.rows.invariant.1 h))

pub returns : goal.returns
returns c = (λ _. c.rows.invariant.0 (none_left c.rows.cell-iterator c.in-None.ensures.steps.0), λ _. refl)
