use Rattle.render_canvas.proofs.Run.{done}
use Rattle.render_array.proofs.nodes.fields.Goals as goal

pub returns-in-Some : goal.returns-in-Some
returns-in-Some c = rw c.in-Some.is c.fields_of_type.ensures

pub returns-in_default : goal.returns-in_default
returns-in_default c = rw c.in_default.is done
