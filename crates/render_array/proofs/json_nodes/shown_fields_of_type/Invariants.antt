use Rattle.std.proofs.Common.{[], take, map}
use Rattle.content_state.specs.Plan.{folded}
use Rattle.render_canvas.specs.Canvas.{Renders}
use Rattle.render_array.specs.Json.{with_shown_field}
use Rattle.render_array.proofs.json_nodes.shown_fields_of_type.Given as goal

abbrev pub invariant-loop-row : goal.invariant-loop-row
invariant-loop-row l =
    Renders (folded (with_shown_field l.n l.node) [] (take l.row-index l.row-items)) l.initial.canvas (map (λ value. value.now) l.found.items) l.canvas
