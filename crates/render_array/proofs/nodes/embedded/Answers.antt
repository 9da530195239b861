use Rattle.render_array.specs.Nodes.{embedded}
use Rattle.render_array.proofs.nodes.embedded.Goals as goal

pub returns : goal.returns
unfolding embedded
returns c = c.open.ensures
