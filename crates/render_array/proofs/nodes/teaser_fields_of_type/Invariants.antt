use Rattle.std.proofs.Common.{take}
use Rattle.content_state.specs.Plan.{each}
use Rattle.render_canvas.specs.Canvas.{Renders}
use Rattle.render_array.specs.Nodes.{teaser_field}
use Rattle.render_array.proofs.nodes.teaser_fields_of_type.Given as goal

abbrev pub invariant-loop-row : goal.invariant-loop-row
invariant-loop-row l = Renders (each (teaser_field l.n l.node) (take l.row-index l.row-items)) l.initial.canvas tt l.canvas
