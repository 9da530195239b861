use Rattle.render_array.specs.Blocks.{csrf_body}
use Rattle.render_array.specs.Pieces as pieces
use Rattle.render_canvas.proofs.Run.{next, done}
use Rattle.render_array.proofs.blocks.csrf_body.Goals as goal

pub returns-in-Some : goal.returns-in-Some
unfolding csrf_body pieces.csrf_start pieces.paragraph_end
returns-in-Some c = next _ c.in-Some.ensures (next _ c.write.ensures (next _ c.csrf.ensures c.write-in-Some.ensures))

pub returns-in_default : goal.returns-in_default
unfolding csrf_body
returns-in_default c = next _ c.in_default.ensures done
