use Rattle.render_array.specs.Pieces as pieces
use Rattle.render_canvas.proofs.Run.{next, next_escaped, done}
use Rattle.render_array.proofs.blocks.text_body.Goals as goal

pub returns-in-Some : goal.returns-in-Some
unfolding pieces.paragraph_start pieces.paragraph_end
returns-in-Some c = rw c.in-Some.is (next _ c.write.ensures (next_escaped _ _ _ c.escaped.ensures c.as_slice.ensures c.write-in-Some.ensures))

pub returns-in_default : goal.returns-in_default
returns-in_default c = rw c.in_default.is done
