use Rattle.std.proofs.Common.{refl, sym, ◌∙◌}
use Rattle.render_array.specs.Nodes.{comment_text, comment_shown, comment_below, replies}
use Rattle.render_array.specs.Pieces as pieces
use Rattle.content_state.specs.Comments.{shown_comment}
use Rattle.render_canvas.proofs.Run.{next, done, if_true, if_false, over_text, each_none, each_mapped_item, each_mapped_all}
use Rattle.render_array.proofs.Deeper.{replies_deeper}
use Rattle.render_array.proofs.comments.+replies.Goals as goal

pub comment_shown-returns : goal.comment_shown-returns
unfolding comment_shown pieces.comment_start pieces.article_end
comment_shown-returns t c =
    next _ c.comment.ensures (next _ c.write.ensures (next _ c.by_line.ensures (next _ (over_text comment_text c.comment_text.ensures c.as_slice.ensures)
    (next _ c.replies.ensures c.write-2.ensures))))

pub comment_below-returns-then-is_shown : goal.comment_below-returns-then-is_shown
unfolding comment_below
comment_below-returns-then-is_shown t c = if_true _ (sym c.is_shown.ensures ∙ c.if-is_shown.true) c.comment_shown.ensures

pub comment_below-returns-else-is_shown : goal.comment_below-returns-else-is_shown
unfolding comment_below
comment_below-returns-else-is_shown t c = if_false _ (sym c.is_shown.ensures ∙ c.if-is_shown.false) done

pub replies-returns-then-levels-eq0 : goal.replies-returns-then-levels-eq0
unfolding replies
replies-returns-then-levels-eq0 t c = rw c.if-levels-eq0.true done

pub replies-loop-entry-init : goal.replies-loop-entry-init
replies-loop-entry-init t c = each_none _

pub replies-loop-entry-preserved : goal.replies-loop-entry-preserved
replies-loop-entry-preserved t c =
    each_mapped_item shown_comment _ _ _ _ c.loop-entry-test.true c.entry-item.is c.loop-entry.invariant c.comment_below.ensures

pub replies-returns : goal.replies-returns
replies-returns t c =
    rw (replies_deeper _ _ _ _ c.if-levels-eq0.false)
    (each_mapped_all shown_comment _ _ _ _ c.loop-entry.invariant c.loop-entry-test.false refl)
