use Rattle.std.proofs.Common.{sym, subst}
use Rattle.content_rows.specs.ValidRow.{IsValidRow}
use Rattle.content_rows.specs.declared.row.Row.{Row}
use Rattle.indexed_rows.specs.Rows.{AreValidRows}
use Rattle.keeper_sqlite.proofs.RightRows.{stays_right}
use Rattle.keeper_sqlite.proofs.finding.add_row.Goals as goal

pub returns-clause-right : goal.returns-clause-right
returns-clause-right c =
    λ right.
    subst AreValidRows (sym c.in_ok-set.ensures.ok)
    (stays_right c.args.rows.now c.args.cell _ (subst (λ (r : Row). IsValidRow c.args.cell r) (sym c.in_ok-new.ensures.ok) c.requires) right)
