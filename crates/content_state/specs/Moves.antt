-- The two kinds of trees, and a row that is to stand elsewhere in one.
use Rattle.std.specs.Prelude.{List, Option, Some, None}
use Rattle.content_rows.specs.declared.cell.Cell.{Cell}
use Rattle.content_rows.specs.declared.row.Row.{Row}
use Rattle.content_state.specs.declared.chain.Move.{Move}
use Rattle.content_state.specs.declared.chain.Tree.{Tree}
use Rattle.content_state.specs.declared.chain.Tree.TheVariants as tree
use Rattle.content_state.specs.Chain.{Up, parent_in, reply_in, with_parent}

-- what stands above which in a tree
abbrev pub above_in : List (Cell × Row) → Tree → Up
above_in rows tree.Terms = parent_in rows
above_in rows tree.Comments = reply_in rows

-- what stands above which after a move, if there is one
abbrev pub moved_by : Option Move → Up → Up
moved_by None up = up
moved_by (Some m) up = with_parent up m.id m.parent
