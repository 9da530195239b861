use Rattle.render_canvas.proofs.Run.{done}
use Rattle.render_array.proofs.listings.page_number.Goals as goal

pub returns-in-OnPage : goal.returns-in-OnPage
returns-in-OnPage c = rw c.in-OnPage.is c.asked_page.ensures

pub returns-in-InBlock : goal.returns-in-InBlock
returns-in-InBlock c = rw c.in-InBlock.is done
