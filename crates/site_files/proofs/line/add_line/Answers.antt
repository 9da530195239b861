use Rattle.std.proofs.Common.{subst, sym}
use Rattle.std.specs.Arc.{arc_value}
use Rattle.content_rows.specs.ValidRow.{IsValidRow}
use Rattle.content_rows.specs.declared.row.Row.{Row}
use Rattle.indexed_rows.specs.Rows.{AreValidRows}
use Rattle.site_files.proofs.RowLaws.{stays_valid}
use Rattle.site_files.proofs.line.add_line.Goals as goal

pub returns-clause-valid : goal.returns-clause-valid
returns-clause-valid c =
    λ valid.
    subst AreValidRows (sym c.in-Ok.ensures.ok)
    (stays_valid c.args.rows.now c.in_ok-cell.cell (arc_value c.in_ok-row.row) (subst (λ (r : Row). IsValidRow c.in_ok-cell.cell r) (sym c.in_ok-row.ensures) c.in_ok-cell.ensures.right) valid)
