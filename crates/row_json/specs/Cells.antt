-- The cells that texts name.
use Rattle.std.specs.Prelude.{ℕ, List, length, drop, Option, None, Some, option_map, if◌then◌else◌, codes, nat_eq, IsTrue}
use Rattle.std.specs.List.{starts_with}
use Rattle.std.specs.Str.{bytes_eq}
use Rattle.content_rows.specs.IdText.{id_of}
use Rattle.content_rows.specs.LiteralName.{is_name}
use Rattle.content_rows.specs.declared.cell.Cell.{Cell}
use Rattle.content_rows.specs.declared.cell.Cell.TheVariants as cell
use Rattle.json_keys.specs.Fault.{or_else}

abbrev pub name_if : List ℕ → Option (List ℕ)
name_if t = if is_name t then Some t else None

-- the name that follows a front
abbrev pub name_after : List ℕ → List ℕ → Option (List ℕ)
name_after front t = if starts_with nat_eq t front then name_if (drop (length front) t) else None

-- the id that follows a front
abbrev pub id_after : List ℕ → List ℕ → Option ℕ
id_after front t = if starts_with nat_eq t front then id_of (drop (length front) t) else None

abbrev pub named_cell : List ℕ → Option Cell
named_cell t = or_else (option_map cell.NodeType (name_after (codes "type:") t))
    (or_else (option_map cell.Role (name_after (codes "role:") t)) (option_map cell.Session (name_after (codes "session:") t)))

abbrev pub placed_cell : List ℕ → Option Cell
placed_cell t = or_else (option_map cell.Menu (name_after (codes "menu:") t))
    (or_else (option_map cell.Listing (name_after (codes "listing:") t)) (option_map cell.Block (name_after (codes "block:") t)))

abbrev pub numbered_cell : List ℕ → Option Cell
numbered_cell t = or_else (option_map cell.User (id_after (codes "user:") t))
    (or_else (option_map cell.Term (id_after (codes "term:") t)) (option_map cell.Node (id_after (codes "node:") t)))

abbrev pub talked_cell : List ℕ → Option Cell
talked_cell t = if bytes_eq t (codes "talk") then Some cell.Talk else option_map cell.Comment (id_after (codes "comment:") t)

-- the cell of a row that a text names
abbrev pub cell_of : List ℕ → Option Cell
cell_of t =
    if bytes_eq t (codes "site") then Some cell.Site
    else if bytes_eq t (codes "seq") then Some cell.Seq
    else or_else (named_cell t) (or_else (placed_cell t) (or_else (numbered_cell t) (talked_cell t)))

-- what the type of a cell says: its name is one
abbrev pub IsTypedCell : Cell → Type 0
IsTypedCell (cell.NodeType name) = IsTrue (is_name name)
IsTypedCell (cell.Role name) = IsTrue (is_name name)
IsTypedCell (cell.Menu name) = IsTrue (is_name name)
IsTypedCell (cell.Listing name) = IsTrue (is_name name)
IsTypedCell (cell.Block name) = IsTrue (is_name name)
IsTypedCell (cell.Session name) = IsTrue (is_name name)
IsTypedCell _ = Unit {0}
