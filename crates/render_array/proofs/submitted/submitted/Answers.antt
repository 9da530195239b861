use Rattle.render_array.specs.Nodes.{submitted}
use Rattle.render_array.proofs.submitted.submitted.Goals as goal

pub returns : goal.returns
unfolding submitted
returns c = c.by_line.ensures
