use Rattle.std.proofs.Common.{refl}
use Rattle.render_array.specs.Listings.{listed_nodes}
use Rattle.render_array.specs.Pieces as pieces
use Rattle.render_canvas.proofs.Run.{next, each_none, each_more, each_all}
use Rattle.render_array.proofs.listings.listed_nodes.Goals as goal

pub loop-n-init : goal.loop-n-init
loop-n-init c = each_none _

pub loop-n-preserved : goal.loop-n-preserved
loop-n-preserved c = each_more _ _ _ _ c.loop-n-test.true c.loop-n.invariant c.listed_node.ensures

pub returns : goal.returns
unfolding listed_nodes pieces.view_start pieces.view_end
returns c = next _ c.write.ensures (next _ (each_all _ _ _ _ c.loop-n.invariant c.loop-n-test.false refl) c.write-2.ensures)
