use Rattle.std.proofs.Common.{refl}
use Rattle.json_out.specs.Told.{shown_node}
use Rattle.render_canvas.proofs.Run.{folded_more, folded_all}
use Rattle.render_array.proofs.Gathered.{none_seen}
use Rattle.render_array.proofs.json_listings.listed_nodes.Goals as goal

pub loop-n-init : goal.loop-n-init
loop-n-init c = none_seen shown_node _ c.new-found.ensures.items

pub loop-n-preserved : goal.loop-n-preserved
loop-n-preserved c = folded_more _ _ _ _ _ c.loop-n-test.true c.loop-n.invariant c.with_listed.ensures

pub returns : goal.returns
returns c = folded_all _ _ _ _ _ c.loop-n.invariant c.loop-n-test.false refl
