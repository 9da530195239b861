-- The cells that a row names, which have to be there.
use Rattle.std.specs.Prelude.{ℕ, List, [], ◌∷◌, ◌++◌, ◌==◌, Option, Some, None, if◌then◌else◌}
use Rattle.content_rows.specs.declared.cell.Cell.{Cell}
use Rattle.content_rows.specs.declared.cell.Cell.TheVariants as cell
use Rattle.content_rows.specs.declared.row.Row.{Row}
use Rattle.content_rows.specs.declared.row.Row.TheVariants as row

-- the cell of a user; 0 is nobody
abbrev pub user_cells : ℕ → List Cell
user_cells uid = if uid == 0 then [] else cell.User uid ∷ []

-- the cell of a parent, if there is one
abbrev pub parent_cells : (ℕ → Cell) → Option ℕ → List Cell
parent_cells of None = []
parent_cells of (Some id) = of id ∷ []

-- a node names its type and its user, a session its user, a term its parent, and a comment its node, its user and its
-- parent; what menus, listings, nodes and users name besides may be absent
abbrev pub named_cells : Row → List Cell
named_cells (row.Node r) = cell.NodeType r.node_type ∷ user_cells r.uid
named_cells (row.Session r) = cell.User r.uid ∷ []
named_cells (row.Term r) = parent_cells cell.Term r.parent
named_cells (row.Comment r) = cell.Node r.node ∷ (user_cells r.uid ++ parent_cells cell.Comment r.parent)
named_cells _ = []
