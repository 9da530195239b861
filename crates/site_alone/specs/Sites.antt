-- The sites of rows that stand in a list.
use Rattle.std.specs.Prelude.{List, []}
use Rattle.std.specs.List.{fold}
use Rattle.content_rows.specs.declared.cell.Cell.{Cell}
use Rattle.content_rows.specs.declared.row.Row.{Row}
use Rattle.content_rows.specs.StarterRows.{starter_rows}
use Rattle.indexed_rows.specs.Rows.{with_row}
use Rattle.content_state.specs.State.{State}

-- the map of these rows: each is set in turn
abbrev pub rows_of : List (Cell × Row) → List (Cell × Row)
rows_of entries = fold (λ rows entry. with_row rows entry.0 entry.1) [] entries

-- the state of these rows, whose number is 0 and whose tags were never invalidated
abbrev pub state_over : List (Cell × Row) → State
state_over entries = record { rows = rows_of entries; counts = []; number = 0 }

-- the starter site
abbrev pub starter_site : State
starter_site = state_over starter_rows
