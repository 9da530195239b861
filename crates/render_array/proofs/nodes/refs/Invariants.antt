use Rattle.std.proofs.Common.{take}
use Rattle.content_state.specs.Plan.{each}
use Rattle.render_canvas.specs.Canvas.{Renders}
use Rattle.render_array.specs.Nodes.{embedded}
use Rattle.render_array.proofs.nodes.refs.Given as goal

abbrev pub invariant-loop-n : goal.invariant-loop-n
invariant-loop-n l = Renders (each (embedded l.deep) (take l.n-index l.n-items)) l.initial.canvas tt l.canvas
