use Rattle.render_array.specs.Page.{login_page, framed}
use Rattle.render_array.specs.Pieces as pieces
use Rattle.render_canvas.proofs.Run.{next, done}
use Rattle.render_array.proofs.pages.login_page.Goals as goal

pub returns : goal.returns
unfolding login_page framed pieces.login_title
returns c = next _ c.page_top.ensures (next _ c.login_content.ensures (next _ c.page_bottom.ensures done))
