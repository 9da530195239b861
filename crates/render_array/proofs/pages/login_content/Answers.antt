use Rattle.render_array.specs.Page.{login_content}
use Rattle.render_array.specs.Pieces as pieces
use Rattle.render_canvas.proofs.Run.{next}
use Rattle.render_array.proofs.pages.login_content.Goals as goal

pub returns : goal.returns
unfolding login_content pieces.login_form
returns c = next _ c.attach.ensures c.write.ensures
