use Rattle.render_array.specs.Nodes.{comment_text}
use Rattle.render_array.specs.Pieces as pieces
use Rattle.render_canvas.proofs.Run.{next}
use Rattle.render_array.proofs.comments.comment_text.Goals as goal

pub returns : goal.returns
unfolding comment_text pieces.paragraph_start pieces.paragraph_end
returns c = next _ c.write.ensures (next _ c.escaped.ensures c.write-2.ensures)
