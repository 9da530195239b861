use Rattle.content_rows.proofs.CellLemmas.{tells_cells_apart}
use Rattle.content_rows.proofs.cell.Cell.equals.Goals as goal

pub returns-clause-apart : goal.returns-clause-apart
returns-clause-apart c = tells_cells_apart
