use Rattle.std.proofs.Common.{sym, ◌∙◌}
use Rattle.render_array.specs.Nodes.{comments_shown}
use Rattle.render_array.specs.Pieces as pieces
use Rattle.render_canvas.proofs.Run.{next, done, if_true, if_false}
use Rattle.render_array.proofs.comments.comments_shown.Goals as goal

pub returns-then-is_any_shown : goal.returns-then-is_any_shown
unfolding comments_shown pieces.comments_start pieces.comments_end
returns-then-is_any_shown c =
    if_true _ (sym c.is_any_shown.ensures ∙ c.if-is_any_shown.true)
    (next _ c.attach.ensures (next _ c.write.ensures (next _ c.replies.ensures c.write-then-is_any_shown.ensures)))

pub returns-else-is_any_shown : goal.returns-else-is_any_shown
unfolding comments_shown
returns-else-is_any_shown c = if_false _ (sym c.is_any_shown.ensures ∙ c.if-is_any_shown.false) done
