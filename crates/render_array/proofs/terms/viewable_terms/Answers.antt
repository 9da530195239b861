use Rattle.std.proofs.Common.{refl}
use Rattle.render_array.proofs.Lists.{none_yet}
use Rattle.render_canvas.proofs.Run.{folded_more, folded_all}
use Rattle.render_array.proofs.terms.viewable_terms.Goals as goal

pub loop-t-init : goal.loop-t-init
loop-t-init c = none_yet _ c.new-found.ensures.items

pub loop-t-preserved : goal.loop-t-preserved
loop-t-preserved c = folded_more _ _ _ _ _ c.loop-t-test.true c.loop-t.invariant c.with_viewable_term.ensures

pub returns : goal.returns
returns c = folded_all _ _ _ _ _ c.loop-t.invariant c.loop-t-test.false refl
