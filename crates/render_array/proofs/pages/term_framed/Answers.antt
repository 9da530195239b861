use Rattle.render_array.specs.Page.{framed, page_top}
use Rattle.render_canvas.proofs.Run.{next, done, over_text}
use Rattle.render_array.proofs.pages.term_framed.Goals as goal

pub returns : goal.returns
unfolding framed
returns c = next _ (over_text page_top c.page_top.ensures c.as_slice.ensures) (next _ c.term_content.ensures (next _ c.page_bottom.ensures done))
