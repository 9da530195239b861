use Rattle.std.proofs.Common.{refl}
use Rattle.render_array.specs.Nodes.{terms_shown}
use Rattle.render_array.specs.Pieces as pieces
use Rattle.render_canvas.proofs.Run.{next, each_none, each_more, each_all}
use Rattle.render_array.proofs.terms.terms_shown.Goals as goal

pub loop-t-init : goal.loop-t-init
loop-t-init c = each_none _

pub loop-t-preserved : goal.loop-t-preserved
loop-t-preserved c = each_more _ _ _ _ c.loop-t-test.true c.loop-t.invariant c.term_item.ensures

pub returns : goal.returns
unfolding terms_shown pieces.terms_start pieces.terms_end
returns c = next _ c.write.ensures (next _ (each_all _ _ _ _ c.loop-t.invariant c.loop-t-test.false refl) c.write-2.ensures)
