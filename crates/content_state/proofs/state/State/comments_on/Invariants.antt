use Rattle.std.proofs.Common.{◌≡◌, ◌++◌, map}
use Rattle.indexed_rows.specs.Rows.{comments_on}
use Rattle.content_state.specs.Comments.{shown_comment}
use Rattle.content_state.proofs.CommentsPlaced.{all_by}
use Rattle.content_state.proofs.state.State.comments_on.Given as goal

-- the comments of the ids so far, and those of the ids that are left
abbrev pub invariant-keys : goal.invariant-keys
invariant-keys l = map shown_comment l.found.items ++ all_by l.self.rows l.key-iterator ≡ comments_on l.self.rows l.nid
