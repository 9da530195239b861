use Rattle.render_array.specs.Nodes.{refs}
use Rattle.render_canvas.proofs.Run.{each_none, each_more, each_all}
use Rattle.render_array.proofs.nodes.refs.Goals as goal

pub loop-n-init : goal.loop-n-init
loop-n-init c = each_none _

pub loop-n-preserved : goal.loop-n-preserved
loop-n-preserved c = each_more _ _ _ _ c.loop-n-test.true c.loop-n.invariant c.embedded.ensures

pub returns : goal.returns
unfolding refs
returns c = each_all _ _ _ _ c.loop-n.invariant c.loop-n-test.false c.as_slice-n-items.ensures
