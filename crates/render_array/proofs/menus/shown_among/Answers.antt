use Rattle.render_canvas.proofs.Run.{folded_none, folded_more}
use Rattle.render_array.proofs.menus.shown_among.Goals as goal

pub loop-place-init : goal.loop-place-init
loop-place-init c = rw c.none_shown-found.ensures (folded_none _)

pub loop-place-preserved : goal.loop-place-preserved
loop-place-preserved c = folded_more _ _ _ _ _ c.loop-place-test.true c.loop-place.invariant c.add_if_shown.ensures
