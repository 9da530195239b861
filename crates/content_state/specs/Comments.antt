-- The comments of a node.
use Rattle.std.specs.Prelude.{ℕ, List, map}
use denote.Ref.{Bor}
use Rattle.content_rows.specs.declared.cell.Cell.{Cell}
use Rattle.content_rows.specs.declared.row.Row.{Row}
use Rattle.content_rows.specs.declared.row.Comment.{Comment}
use Rattle.row_keys.specs.declared.rank.CommentKey.{CommentKey}
use Rattle.indexed_rows.specs.Rows.{comments_on}
use Rattle.content_state.specs.SiteRules.{comments_before}

-- what an id and a reference to its comment show
abbrev pub shown_comment : ℕ × Bor Comment → ℕ × Comment
shown_comment e = (e.0, e.1.now)

-- their ids with that of the node, in the order of the ids; those below an id
abbrev pub comment_key : ℕ → ℕ × Comment → CommentKey
comment_key node e = record { node = node; id = e.0 }

abbrev pub keys_on : List (Cell × Row) → ℕ → List CommentKey
keys_on rows node = map (comment_key node) (comments_on rows node)

abbrev pub keys_before : List (Cell × Row) → ℕ → ℕ → List CommentKey
keys_before rows node id = map (comment_key node) (comments_before rows node id)
