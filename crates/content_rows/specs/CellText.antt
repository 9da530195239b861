use Rattle.std.specs.Prelude.{ℕ, List, ◌++◌, codes}
use Rattle.std.specs.Fmt.{decimal}
use Rattle.content_rows.specs.declared.cell.Cell.{Cell}
use Rattle.content_rows.specs.declared.cell.Cell.TheVariants as cell

-- what a cell is called in a line of rows and in a store
abbrev pub cell_text : Cell → List ℕ
cell_text cell.Site = codes "site"
cell_text cell.Seq = codes "seq"
cell_text (cell.NodeType name) = codes "type:" ++ name
cell_text (cell.Role name) = codes "role:" ++ name
cell_text (cell.User id) = codes "user:" ++ decimal id
cell_text (cell.Term id) = codes "term:" ++ decimal id
cell_text (cell.Node id) = codes "node:" ++ decimal id
cell_text (cell.Menu name) = codes "menu:" ++ name
cell_text (cell.Listing name) = codes "listing:" ++ name
cell_text (cell.Block name) = codes "block:" ++ name
cell_text (cell.Session name) = codes "session:" ++ name
cell_text (cell.Comment id) = codes "comment:" ++ decimal id
cell_text cell.Talk = codes "talk"
cell_text cell.Head = codes "head"
