use Rattle.render_canvas.proofs.Run.{done}
use Rattle.render_array.proofs.nodes.refs_below.Goals as goal

pub returns-in-One : goal.returns-in-One
returns-in-One c = rw c.in-One.is c.refs.ensures

pub returns-in-Two : goal.returns-in-Two
returns-in-Two c = rw c.in-Two.is c.refs-in-Two.ensures

pub returns-in-Three : goal.returns-in-Three
returns-in-Three c = rw c.in-Three.is done
