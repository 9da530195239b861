use Rattle.render_array.specs.Blocks.{region}
use Rattle.render_canvas.proofs.Run.{next, each_none, each_item, each_all}
use Rattle.render_array.proofs.blocks.region.Goals as goal

pub loop-name-init : goal.loop-name-init
loop-name-init c = each_none _

pub loop-name-preserved : goal.loop-name-preserved
loop-name-preserved c = each_item _ _ _ _ c.loop-name-test.true c.name-item.is c.loop-name.invariant c.block_place.ensures

pub returns : goal.returns
unfolding region
returns c = next _ c.block_names-names.ensures (each_all _ _ _ _ c.loop-name.invariant c.loop-name-test.false c.deref-name-items.ensures.value)
