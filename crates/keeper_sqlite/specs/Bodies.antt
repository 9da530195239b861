-- The row of a cell that a body is.
use Rattle.std.specs.Prelude.{ℕ, List, Option, Some, None, option_map, if◌then◌else◌, codes}
use Rattle.std.specs.Str.{is_utf8, bytes_eq}
use Rattle.serde_json.specs.Data.{Data}
use Rattle.serde_json.specs.Read.{read}
use Rattle.content_rows.specs.CellText.{cell_text}
use Rattle.content_rows.specs.declared.cell.Cell.{Cell}
use Rattle.content_rows.specs.declared.row.Row.{Row}
use Rattle.indexed_rows.specs.Rows.{with_row}
use Rattle.json_keys.specs.declared.checked.Checked.{Checked}
use Rattle.json_keys.specs.declared.checked.Checked.TheVariants as checked
use Rattle.row_json.specs.Reading.{reading}
use Rattle.site_keeper.specs.declared.stored.Stored.{Stored}
use Rattle.cacheability.specs.declared.tag.Tag.{Tag}
use Rattle.tag_counts.specs.Counts.{with_count}
use Rattle.keeper_sqlite.specs.Numbers.{head_in, count_in}
use Rattle.keeper_sqlite.specs.Tags.{tag_of}

-- the value of JSON that a body is (RFC 8259)
abbrev pub value_of : List ℕ → Option Data
value_of body = if is_utf8 body then read body else None

-- a row, where the cell that it stands in is its own
abbrev pub in_its_cell : List ℕ → Checked (Cell × Row) → Option (Cell × Row)
in_its_cell cell (checked.Right row) = if bytes_eq (cell_text row.0) cell then Some row else None
in_its_cell cell (checked.Broken field rule) = None

abbrev pub row_told : List ℕ → Option Data → Option (Cell × Row)
row_told cell None = None
row_told cell (Some d) = in_its_cell cell (reading d)

-- the row of a cell that a body is
abbrev pub row_of : List ℕ → List ℕ → Option (Cell × Row)
row_of cell body = row_told cell (value_of body)

-- what is held with one row of the table of cells more: a row of its cell, or the head
abbrev pub with_entry_of : Stored → List ℕ → List ℕ → Option Stored
with_entry_of held cell body =
    if bytes_eq cell (codes "head") then option_map (λ n. record held { head = n }) (head_in body)
    else option_map (λ row. record held { rows = with_row held.rows row.0 row.1 }) (row_of cell body)

abbrev pub with_count_told : List (Tag × ℕ) → Option Tag → Option ℕ → Option (List (Tag × ℕ))
with_count_told counts (Some tag) (Some count) = Some (with_count counts tag count)
with_count_told counts (Some tag) None = None
with_count_told counts None count = None

-- the counts with one row of the table of tags more: the count of its tag
abbrev pub with_tag_of : List (Tag × ℕ) → List ℕ → List ℕ → Option (List (Tag × ℕ))
with_tag_of counts tag count = with_count_told counts (tag_of tag) (count_in count)
