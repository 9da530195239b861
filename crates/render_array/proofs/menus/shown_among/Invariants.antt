use Rattle.std.proofs.Common.{take}
use Rattle.content_state.specs.Plan.{folded}
use Rattle.render_canvas.specs.Canvas.{Renders}
use Rattle.render_array.specs.Menus.{none_shown, with_shown}
use Rattle.render_array.proofs.menus.shown_among.Given as goal

abbrev pub invariant-loop-place : goal.invariant-loop-place
invariant-loop-place l = Renders (folded (with_shown l.links) none_shown (take l.place-index l.places)) l.initial.canvas l.found l.canvas
