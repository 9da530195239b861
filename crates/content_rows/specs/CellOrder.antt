-- The order of cells.
use Rattle.std.specs.Prelude.{◌≡◌, ◌↔◌, ℕ}
use Rattle.std.specs.Ordering.{nat_cmp, ordering_then}
use Rattle.std.specs.Cmp.Lexicographic.{slice_cmp}
use Rattle.std.specs.declared.cmp.Ordering.{Ordering}
use Rattle.std.specs.declared.cmp.Ordering.TheVariants.{Equal}
use Rattle.content_rows.specs.declared.cell.Cell.{Cell}
use Rattle.content_rows.specs.declared.cell.Cell.TheVariants as cell
use Rattle.content_rows.specs.contracts.cell.CellOrd.TheImpl as order

-- how a map by cells orders them
abbrev pub cell_cmp : Cell → Cell → Ordering
cell_cmp = order.ghosts.cmp

-- the place of a cell's kind among the kinds
abbrev pub kind_place : Cell → ℕ
kind_place cell.Site = 0
kind_place cell.Seq = 1
kind_place (cell.NodeType name) = 2
kind_place (cell.Role name) = 3
kind_place (cell.User id) = 4
kind_place (cell.Term id) = 5
kind_place (cell.Node id) = 6
kind_place (cell.Menu name) = 7
kind_place (cell.Listing name) = 8
kind_place (cell.Block name) = 9
kind_place (cell.Session name) = 10
kind_place (cell.Comment id) = 11
kind_place cell.Talk = 12
kind_place cell.Head = 13

-- two cells of one kind: by number, or by the bytes of the name
abbrev pub within_kind : Cell → Cell → Ordering
within_kind (cell.NodeType m) (cell.NodeType n) = slice_cmp nat_cmp m n
within_kind (cell.Role m) (cell.Role n) = slice_cmp nat_cmp m n
within_kind (cell.User m) (cell.User n) = nat_cmp m n
within_kind (cell.Term m) (cell.Term n) = nat_cmp m n
within_kind (cell.Node m) (cell.Node n) = nat_cmp m n
within_kind (cell.Menu m) (cell.Menu n) = slice_cmp nat_cmp m n
within_kind (cell.Listing m) (cell.Listing n) = slice_cmp nat_cmp m n
within_kind (cell.Block m) (cell.Block n) = slice_cmp nat_cmp m n
within_kind (cell.Session m) (cell.Session n) = slice_cmp nat_cmp m n
within_kind (cell.Comment m) (cell.Comment n) = nat_cmp m n
within_kind _ _ = Equal

-- by their kinds, and then within the kind
abbrev pub order_of_cells : Cell → Cell → Ordering
order_of_cells a b = ordering_then (nat_cmp (kind_place a) (kind_place b)) (within_kind a b)

-- no two cells are level: the order tells every cell from every other
abbrev pub TellsCellsApart : Type 0
TellsCellsApart = (a b : Cell) → (cell_cmp a b ≡ Equal) ↔ (a ≡ b)
