use Rattle.render_array.specs.Page.{framed, not_found}
use Rattle.render_array.specs.Pieces as pieces
use Rattle.render_canvas.proofs.Run.{next, done}
use Rattle.render_array.proofs.pages.not_found.Goals as goal

pub returns : goal.returns
unfolding not_found framed pieces.not_found_title pieces.not_found_content
returns c = next _ c.page_top.ensures (next _ c.write.ensures (next _ c.page_bottom.ensures done))
