use Rattle.std.proofs.Common.{◌+◌, ◌*◌, ◌-◌, take, map}
use Rattle.content_state.specs.Plan.{each}
use Rattle.render_canvas.specs.Canvas.{Renders}
use Rattle.content_state.specs.Comments.{shown_comment}
use Rattle.render_array.specs.Nodes.{comment_below, replies}
use Rattle.render_array.proofs.comments.+replies.Given as goal

abbrev pub decreases-comment_below : goal.decreases-comment_below
decreases-comment_below l = 3 * l.levels + 2

abbrev pub decreases-comment_shown : goal.decreases-comment_shown
decreases-comment_shown l = 3 * l.levels + 1

abbrev pub decreases-replies : goal.decreases-replies
decreases-replies l = 3 * l.levels

abbrev pub invariant-replies-loop-entry : goal.invariant-replies-loop-entry
invariant-replies-loop-entry l =
    Renders (each (comment_below (replies (l.levels - 1) l.reader (map shown_comment l.all)) l.reader l.parent) (map shown_comment (take l.entry-index l.all))) l.initial.canvas tt l.canvas
