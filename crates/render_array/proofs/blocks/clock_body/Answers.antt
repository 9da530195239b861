use Rattle.render_array.specs.Blocks.{clock_body}
use Rattle.render_array.specs.Pieces as pieces
use Rattle.render_canvas.proofs.Run.{next}
use Rattle.render_array.proofs.blocks.clock_body.Goals as goal

pub returns : goal.returns
unfolding clock_body pieces.time_start pieces.time_end
returns c = next _ c.attach.ensures (next _ c.clock-moment.ensures (next _ c.write.ensures (next _ c.moment.ensures c.write-2.ensures)))
