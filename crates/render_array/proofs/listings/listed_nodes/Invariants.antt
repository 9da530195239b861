use Rattle.std.proofs.Common.{take}
use Rattle.content_state.specs.Plan.{each}
use Rattle.render_canvas.specs.Canvas.{Renders}
use Rattle.render_array.specs.Listings.{listed_node}
use Rattle.render_array.proofs.listings.listed_nodes.Given as goal

abbrev pub invariant-loop-n : goal.invariant-loop-n
invariant-loop-n l = Renders (each listed_node (take l.n-index l.ids)) l.initial.canvas tt l.canvas
