use Rattle.std.proofs.Common.{[], take, map}
use Rattle.content_state.specs.Plan.{folded}
use Rattle.json_out.specs.Told.{shown_node}
use Rattle.render_canvas.specs.Canvas.{Renders}
use Rattle.render_array.specs.Json.{with_listed}
use Rattle.render_array.proofs.json_listings.listed_nodes.Given as goal

abbrev pub invariant-loop-n : goal.invariant-loop-n
invariant-loop-n l = Renders (folded with_listed [] (take l.n-index l.ids)) l.initial.canvas (map shown_node l.found.items) l.canvas
