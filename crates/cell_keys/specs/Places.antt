-- In which of 1,024 buckets a cell stands: a cell with a number by the number, any other by the sum of the bytes of its text.
use Rattle.std.specs.Prelude.{ℕ, ◌%◌, ◌<◌, sum}
use Rattle.std.proofs.Math.Dec.{lit<}
use Rattle.std.proofs.lemmas.Nat.{mod_below}
use Rattle.content_rows.specs.CellText.{cell_text}
use Rattle.content_rows.specs.declared.cell.Cell.{Cell}
use Rattle.content_rows.specs.declared.cell.Cell.TheVariants as cell

abbrev pub cell_place : Cell → ℕ
cell_place (cell.User id) = id % 1024
cell_place (cell.Term id) = id % 1024
cell_place (cell.Node id) = id % 1024
cell_place (cell.Comment id) = id % 1024
cell_place c = sum (cell_text c) % 1024

within : (n : ℕ) → n % 1024 < 1024
within n = mod_below n 1024 (lit< tt)

-- each cell has one of these buckets
pub cells_within : (c : Cell) → cell_place c < 1024
cells_within (cell.User id) = within id
cells_within (cell.Term id) = within id
cells_within (cell.Node id) = within id
cells_within (cell.Comment id) = within id
cells_within cell.Site = within (sum (cell_text cell.Site))
cells_within cell.Seq = within (sum (cell_text cell.Seq))
cells_within (cell.NodeType name) = within (sum (cell_text (cell.NodeType name)))
cells_within (cell.Role name) = within (sum (cell_text (cell.Role name)))
cells_within (cell.Menu name) = within (sum (cell_text (cell.Menu name)))
cells_within (cell.Listing name) = within (sum (cell_text (cell.Listing name)))
cells_within (cell.Block name) = within (sum (cell_text (cell.Block name)))
cells_within (cell.Session name) = within (sum (cell_text (cell.Session name)))
cells_within cell.Talk = within (sum (cell_text cell.Talk))
cells_within cell.Head = within (sum (cell_text cell.Head))
