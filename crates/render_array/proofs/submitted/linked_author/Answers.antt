use Rattle.render_array.specs.Nodes.{linked_author}
use Rattle.render_array.specs.Pieces as pieces
use Rattle.render_canvas.proofs.Run.{next}
use Rattle.render_array.proofs.submitted.linked_author.Goals as goal

pub returns : goal.returns
unfolding linked_author pieces.user_link_start pieces.link_between pieces.link_end
returns c = next _ c.write.ensures (next _ c.number.ensures (next _ c.write-2.ensures (next _ c.escaped.ensures c.write-3.ensures)))
