-- The rows that have a text as what no two rows may have.
use Rattle.std.specs.Prelude.{ℕ, List}
use Rattle.std.specs.List.{filter}
use Rattle.content_rows.specs.declared.cell.Cell.{Cell}
use Rattle.content_rows.specs.declared.row.Row.{Row}
use Rattle.indexed_rows.specs.Texts.{is_text, text_of}
use Rattle.indexed_rows.specs.declared.unique.Unique.{Unique}

-- the entries whose row has the text, in their order
abbrev pub having : Unique → List ℕ → List (Cell × Row) → List (Cell × Row)
having what text rows = filter (λ e. is_text text (text_of what e.1)) rows
