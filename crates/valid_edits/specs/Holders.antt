-- Who else has a text that no two rows may have, whether nodes have a type, and whether a term is another's parent.
use Rattle.std.specs.Prelude.{ℕ, List, Bool, false, not, ◌&&◌, ◌==◌, Option, Some, None, option_map}
use Rattle.std.specs.List.{find, list_any}
use Rattle.std.specs.Option.{option_map_or}
use Rattle.std.specs.Ordering.{is_eq}
use Rattle.std.specs.Str.{bytes_eq}
use Rattle.content_rows.specs.CellOrder.{cell_cmp}
use Rattle.content_rows.specs.declared.cell.Cell.{Cell}
use Rattle.content_rows.specs.declared.row.Row.{Row}
use Rattle.content_rows.specs.declared.row.Row.TheVariants as row
use Rattle.content_rows.specs.declared.row.Term.{Term}
use Rattle.indexed_rows.specs.Rows.{terms_of}
use Rattle.indexed_rows.specs.Texts.{is_text, text_of}
use Rattle.indexed_rows.specs.declared.unique.Unique.{Unique}
use Rattle.indexed_rows.specs.declared.unique.Unique.TheVariants as unique

-- whether an entry is of another cell and its row has the text
abbrev pub is_other_with : Cell → Unique → List ℕ → (Cell × Row) → Bool
is_other_with c what text e = not (is_eq (cell_cmp e.0 c)) && is_text text (text_of what e.1)

-- the first other cell, in cell order, whose row has the text
abbrev pub holder : List (Cell × Row) → Cell → Unique → List ℕ → Option Cell
holder rows c what text = option_map (λ e. e.0) (find (is_other_with c what text) rows)

-- the first other cell whose row has the path; no path has no holder
abbrev pub path_holder : List (Cell × Row) → Cell → Option (List ℕ) → Option Cell
path_holder rows c None = None
path_holder rows c (Some path) = holder rows c unique.Path path

-- whether a row is a node of the type
abbrev pub is_node_of : List ℕ → Row → Bool
is_node_of node_type (row.Node r) = bytes_eq r.node_type node_type
is_node_of node_type _ = false

abbrev pub is_of_type : List ℕ → (Cell × Row) → Bool
is_of_type node_type e = is_node_of node_type e.1

-- whether a node has the type
abbrev pub is_used : List (Cell × Row) → List ℕ → Bool
is_used rows node_type = list_any (is_of_type node_type) rows

-- whether a term's parent is the one of that id
abbrev pub is_child_of : ℕ → Term → Bool
is_child_of tid term = option_map_or (λ parent. parent == tid) term.parent false

-- whether a term is another's parent
abbrev pub is_parent : List (Cell × Row) → ℕ → Bool
is_parent rows tid = list_any (λ e. is_child_of tid e.1) (terms_of rows)
