use Rattle.render_canvas.proofs.Run.{done}
use Rattle.render_array.proofs.listings.pager_in.Goals as goal

pub returns-in-OnPage : goal.returns-in-OnPage
returns-in-OnPage c = rw c.in-OnPage.is c.pager.ensures

pub returns-in-InBlock : goal.returns-in-InBlock
returns-in-InBlock c = rw c.in-InBlock.is done
