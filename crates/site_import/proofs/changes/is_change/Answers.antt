use Rattle.std.proofs.Common.{◌∙◌, ap}
use Rattle.indexed_rows.specs.Rows.{row_at}
use Rattle.site_import.proofs.LineTells.{keeps_unchanged}
use Rattle.site_import.proofs.changes.is_change.Goals as goal

pub returns-in_ok-same-in-Some-clause-kept : goal.returns-in_ok-same-in-Some-clause-kept
returns-in_ok-same-in-Some-clause-kept c =
    keeps_unchanged c.args.base.now.rows c.args.cell.now c.in-Some.old.now c.args.row.now c.in_ok-same-in-Some.same
    (c.in-Some.ensures ∙ ap (λ rs. row_at rs c.args.cell.now) c.rows.ensures) c.in_ok-same-in-Some.ensures.lines c.in_ok-same-in-Some.ensures.rows
