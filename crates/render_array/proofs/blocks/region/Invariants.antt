use Rattle.std.proofs.Common.{take}
use Rattle.content_state.specs.Plan.{each}
use Rattle.render_canvas.specs.Canvas.{Renders}
use Rattle.render_array.specs.Blocks.{block_place}
use Rattle.render_array.proofs.blocks.region.Given as goal

abbrev pub invariant-loop-name : goal.invariant-loop-name
invariant-loop-name l = Renders (each block_place (take l.name-index l.name-items)) l.initial.canvas tt l.canvas
