use Rattle.render_array.specs.Page.{denied, framed}
use Rattle.render_array.specs.Pieces as pieces
use Rattle.render_canvas.proofs.Run.{next, done}
use Rattle.render_array.proofs.pages.denied.Goals as goal

pub returns : goal.returns
unfolding denied framed pieces.denied_title
returns c = next _ c.page_top.ensures (next _ c.denied_content.ensures (next _ c.page_bottom.ensures done))
