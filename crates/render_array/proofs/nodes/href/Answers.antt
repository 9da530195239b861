use Rattle.render_array.specs.Pieces as pieces
use Rattle.render_canvas.proofs.Run.{next, escaped_by}
use Rattle.render_array.proofs.nodes.href.Goals as goal

pub returns-in-Some : goal.returns-in-Some
returns-in-Some c = rw c.in-Some.is (escaped_by c.escaped.ensures c.as_slice.ensures)

pub returns-in-None : goal.returns-in-None
unfolding pieces.node_path
returns-in-None c = rw c.in-None.is (next _ c.write.ensures c.number.ensures)
