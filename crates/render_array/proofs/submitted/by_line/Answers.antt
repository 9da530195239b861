use Rattle.render_array.specs.Nodes.{by_line}
use Rattle.render_array.specs.Pieces as pieces
use Rattle.render_canvas.proofs.Run.{next}
use Rattle.render_array.proofs.submitted.by_line.Goals as goal

pub returns : goal.returns
unfolding by_line pieces.by_start pieces.by_between pieces.paragraph_end
returns c = next _ c.write.ensures (next _ c.author.ensures (next _ c.write-2.ensures (next _ c.date.ensures c.write-3.ensures)))
