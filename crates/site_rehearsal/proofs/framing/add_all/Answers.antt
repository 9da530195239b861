use Rattle.renderer.proofs.Joining.{joins_none, joins_part, joins_all}
use Rattle.site_rehearsal.proofs.framing.add_all.Goals as goal

pub loop-part-init : goal.loop-part-init
loop-part-init c = joins_none _ _ _ _

pub loop-part-preserved : goal.loop-part-preserved
loop-part-preserved c = joins_part _ _ _ _ _ _ _ _ _ c.loop-part-test.true c.part-item.is c.loop-part.invariant c.in_ok-add_part.ensures

pub returns : goal.returns
returns c = joins_all _ _ _ _ _ _ _ c.loop-part.invariant c.loop-part-test.false
