-- What the rows of a file change where some rows stand.
use Rattle.std.specs.Prelude.{List, [], ◌≡◌, Bool, true, false, not, Option, None, Some, fold, map, filter}
use Rattle.std.specs.Str.{bytes_eq}
use Rattle.content_rows.specs.declared.cell.Cell.{Cell}
use Rattle.content_rows.specs.declared.row.Row.{Row}
use Rattle.indexed_rows.specs.Rows.{row_at, with_row}
use Rattle.indexed_rows.specs.Write.{Write}
use Rattle.content_state.specs.declared.commit.Commit.{Commit}
use Rattle.site_import.specs.Lines.{line}

-- whether a row for a cell is another than the one that stands there: none does, or one with another line
abbrev pub is_other : Cell → Row → Option Row → Bool
is_other c new None = true
is_other c new (Some old) = not (bytes_eq (line c old) (line c new))

-- whether a row changes what stands in its cell
abbrev pub is_change : List (Cell × Row) → Cell × Row → Bool
is_change base e = is_other e.0 e.1 (row_at base e.0)

-- the rows with one of a file set in its cell
abbrev pub with_entry : List (Cell × Row) → Cell × Row → List (Cell × Row)
with_entry rows e = with_row rows e.0 e.1

-- the rows with each of the file set in its cell
abbrev pub merged : List (Cell × Row) → List (Cell × Row) → List (Cell × Row)
merged base file = fold with_entry base file

abbrev pub write_of : Cell × Row → Write
write_of e = record { cell = e.0; row = Some e.1 }

-- the writes of those rows of the file that change what stands in their cells, in the order of the file
abbrev pub writes_of : List (Cell × Row) → List (Cell × Row) → List Write
writes_of base file = map write_of (filter (is_change base) file)

-- an edit of these writes alone
abbrev pub edit_of : List Write → Commit
edit_of writes = record { writes = writes; extra = []; pass = 0 }

-- the edit that sets the cells whose rows the file changes, and nothing else
abbrev pub commit_of : List (Cell × Row) → List (Cell × Row) → Commit
commit_of base file = edit_of (writes_of base file)

-- where a row changes nothing, it stands there already
abbrev pub KeepsUnchanged : List (Cell × Row) → Cell × Row → Type 0
KeepsUnchanged base e = is_change base e ≡ false → row_at base e.0 ≡ Some e.1
