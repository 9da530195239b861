use Rattle.render_array.specs.Page.{denied_content}
use Rattle.render_array.specs.Pieces as pieces
use Rattle.render_canvas.proofs.Run.{next}
use Rattle.render_array.proofs.pages.denied_content.Goals as goal

pub returns : goal.returns
unfolding denied_content pieces.denied_start pieces.denied_end
returns c = next _ c.write.ensures (next _ c.reason.ensures c.write-2.ensures)
