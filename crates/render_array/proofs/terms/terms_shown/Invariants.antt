use Rattle.std.proofs.Common.{take}
use Rattle.content_state.specs.Plan.{each}
use Rattle.render_canvas.specs.Canvas.{Renders}
use Rattle.render_array.specs.Nodes.{term_item}
use Rattle.render_array.proofs.terms.terms_shown.Given as goal

abbrev pub invariant-loop-t : goal.invariant-loop-t
invariant-loop-t l = Renders (each term_item (take l.t-index l.ts)) l.initial.canvas tt l.canvas
