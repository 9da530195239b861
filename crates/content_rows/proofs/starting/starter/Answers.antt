use Rattle.std.proofs.Common.{subst, sym}
use Rattle.content_rows.specs.StarterRows.{AllValid, InCellOrder}
use Rattle.content_rows.proofs.StarterLemmas.{starter_valid, in_cell_order}
use Rattle.content_rows.proofs.starting.starter.Goals as goal

pub returns-clause-valid : goal.returns-clause-valid
returns-clause-valid c = subst AllValid (sym c.in_ok-written.ensures) starter_valid

pub returns-clause-in_order : goal.returns-clause-in_order
returns-clause-in_order c = subst InCellOrder (sym c.in_ok-written.ensures) in_cell_order
