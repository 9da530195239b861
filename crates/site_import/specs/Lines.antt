-- The line that a row is in a file, and what the file of some rows is.
use Rattle.std.specs.Prelude.{ℕ, List, [], ◌∷◌, ◌++◌, ◌≡◌, ◌≤◌, length, All, Ok, flat_map}
use Rattle.serde_json.specs.Written.{compact_text}
use Rattle.content_rows.specs.declared.cell.Cell.{Cell}
use Rattle.content_rows.specs.declared.row.Row.{Row}
use Rattle.row_json.specs.Reading.{written}
use Rattle.site_files.specs.Lines.{longest}
use Rattle.site_files.specs.Rows.{row_told, value_of, most_lines}

-- one JSON object, with no space
abbrev pub line : Cell → Row → List ℕ
line c r = compact_text (written c r)

-- a line ends with its line end
abbrev pub ended_line : Cell × Row → List ℕ
ended_line e = line e.0 e.1 ++ 10 ∷ []

-- the lines of the rows, one after the other
abbrev pub export_text : List (Cell × Row) → List ℕ
export_text rows = flat_map ended_line rows

-- what the line of a row says, however long it is, is that row
abbrev pub TellsItsRow : Cell → Row → Type 0
TellsItsRow c r = row_told (value_of (line c r)) ≡ Ok (c, r)

-- so it is of each of some rows
abbrev pub AllTellTheirRow : List (Cell × Row) → Type 0
AllTellTheirRow rows = All (λ e. TellsItsRow e.0 e.1) rows

-- no more rows than a file may have, and none with a longer line than it may have
pub record FitAFile (rows : List (Cell × Row)) : Type 0 where
  pub few : length rows ≤ most_lines
  pub short : All (λ e. length (line e.0 e.1) ≤ longest) rows
