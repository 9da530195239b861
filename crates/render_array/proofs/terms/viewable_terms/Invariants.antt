use Rattle.std.proofs.Common.{[], take}
use Rattle.content_state.specs.Plan.{folded}
use Rattle.render_canvas.specs.Canvas.{Renders}
use Rattle.render_array.specs.Nodes.{with_viewable_term}
use Rattle.render_array.proofs.terms.viewable_terms.Given as goal

abbrev pub invariant-loop-t : goal.invariant-loop-t
invariant-loop-t l = Renders (folded with_viewable_term [] (take l.t-index l.ts)) l.initial.canvas l.found.items l.canvas
