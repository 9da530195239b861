-- What is read of a file that was written.
use Rattle.std.specs.Prelude.{List, [], ◌≡◌, Ok}
use Rattle.content_rows.specs.declared.cell.Cell.{Cell}
use Rattle.content_rows.specs.declared.row.Row.{Row}
use Rattle.indexed_rows.specs.Rows.{InOrder}
use Rattle.site_files.specs.Rows.{rows_of}
use Rattle.site_import.specs.Changes.{commit_of, edit_of}
use Rattle.site_import.specs.Lines.{line, export_text, AllTellTheirRow, FitAFile, TellsItsRow}

-- the rows that a file was written of
abbrev pub ComesBack : List (Cell × Row) → Type 0
ComesBack rows = FitAFile rows → rows_of (export_text rows) ≡ Ok rows

-- A file of rows, in the order of their cells, the line of each of which tells its row, is read as these rows again, and
-- an import of it where these rows stand changes nothing.
abbrev pub ExportsComeBack : Type 0
ExportsComeBack = (rows : List (Cell × Row)) → InOrder rows → AllTellTheirRow rows → ComesBack rows

abbrev pub ExportsChangeNothing : Type 0
ExportsChangeNothing = (rows : List (Cell × Row)) → InOrder rows → commit_of rows rows ≡ edit_of []

-- rows for one cell whose lines tell their rows are equal where their lines are
abbrev pub LinesTellRows : Type 0
LinesTellRows =
    (c : Cell) (r s : Row) → TellsItsRow c r → TellsItsRow c s → line c r ≡ line c s → r ≡ s
