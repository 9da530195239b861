use Rattle.render_array.specs.Nodes.{field_shown}
use Rattle.render_array.specs.Pieces as pieces
use Rattle.render_canvas.proofs.Run.{next}
use Rattle.render_array.proofs.nodes.field_shown.Goals as goal

pub returns : goal.returns
unfolding field_shown pieces.field_start pieces.field_between pieces.field_end
returns c = next _ c.write.ensures (next _ c.escaped.ensures (next _ c.write-2.ensures (next _ c.escaped-2.ensures c.write-3.ensures)))
