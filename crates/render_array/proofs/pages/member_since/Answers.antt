use Rattle.render_array.specs.Page.{member_since}
use Rattle.render_array.specs.Pieces as pieces
use Rattle.render_canvas.proofs.Run.{next}
use Rattle.render_array.proofs.pages.member_since.Goals as goal

pub returns : goal.returns
unfolding member_since pieces.member_start pieces.paragraph_end
returns c = next _ c.write.ensures (next _ c.date.ensures c.write-2.ensures)
