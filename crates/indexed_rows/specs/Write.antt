-- A write of an edit, as contracts see it: a cell, and the row that it gets; none removes the row.
use Rattle.std.specs.Prelude.{List, Option, Some, None}
use Rattle.content_rows.specs.declared.cell.Cell.{Cell}
use Rattle.content_rows.specs.declared.row.Row.{Row}
use Rattle.indexed_rows.specs.Rows.{with_row, without_row}

pub record Write : Type 0 where
  pub cell : Cell
  pub row : Option Row

-- the rows after a write: a row is set, or none stands there
abbrev pub with_row_or_none : List (Cell × Row) → Cell → Option Row → List (Cell × Row)
with_row_or_none rows c None = without_row rows c
with_row_or_none rows c (Some row) = with_row rows c row

abbrev pub written : List (Cell × Row) → Write → List (Cell × Row)
written rows write = with_row_or_none rows write.cell write.row
