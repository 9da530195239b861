use Rattle.content_state.specs.Viewer.{access_content}
use Rattle.render_array.specs.Page.{term_content, described}
use Rattle.render_canvas.proofs.Run.{next, done, if_true, if_false, over_text}
use Rattle.render_array.proofs.pages.term_content.Goals as goal

pub returns-then-holds : goal.returns-then-holds
unfolding term_content access_content
returns-then-holds c =
    next _ (over_text described c.described.ensures c.as_slice.ensures) (next _ c.holds.ensures (if_true _ c.if-holds.true c.open.ensures))

pub returns-else-holds : goal.returns-else-holds
unfolding term_content access_content
returns-else-holds c =
    next _ (over_text described c.described.ensures c.as_slice.ensures) (next _ c.holds.ensures (if_false _ c.if-holds.false done))
