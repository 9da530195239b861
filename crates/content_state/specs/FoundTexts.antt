-- The rows that the keys of texts lead to.
use Rattle.std.specs.Prelude.{ℕ, List, cond, Option, Some, None, option_and_then, option_map}
use Rattle.std.specs.List.{filter_map}
use Rattle.content_rows.specs.declared.cell.Cell.{Cell}
use Rattle.content_rows.specs.declared.row.Row.{Row}
use Rattle.indexed_rows.specs.Rows.{row_at}
use Rattle.indexed_rows.specs.Texts.{is_text, text_of}
use Rattle.indexed_rows.specs.declared.unique.Unique.{Unique}
use Rattle.indexed_rows.specs.declared.text_mark.TextKey.{TextKey}

-- the row of a cell, where it has the text
abbrev pub row_with : List (Cell × Row) → Unique → List ℕ → Cell → Option Row
row_with rows what text c = option_and_then (λ r. cond (is_text text (text_of what r)) (Some r) None) (row_at rows c)

-- that of the cell that a key names, with the cell
abbrev pub found_at : List (Cell × Row) → Unique → List ℕ → TextKey → Option (Cell × Row)
found_at rows what text k = option_map (λ r. (k.cell, r)) (row_with rows what text k.cell)

abbrev pub found_with : List (Cell × Row) → Unique → List ℕ → List TextKey → List (Cell × Row)
found_with rows what text ks = filter_map (found_at rows what text) ks
