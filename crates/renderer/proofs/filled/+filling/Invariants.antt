use Rattle.std.proofs.Common.{◌+◌, ◌*◌, take}
use Rattle.html_out.specs.Segment.{parts_of}
use Rattle.render_canvas.specs.Board.{pieces_of}
use Rattle.render_array.specs.Whole.{element_level, shown_below, count_below}
use Rattle.renderer.specs.Filled.{Joins}
use Rattle.renderer.proofs.filled.+filling.Given as goal

abbrev pub decreases-some_child : goal.decreases-some_child
decreases-some_child l = 4 * element_level l.element + 3

abbrev pub decreases-fill : goal.decreases-fill
decreases-fill l = 4 * element_level l.element + 2

abbrev pub decreases-add_parts : goal.decreases-add_parts
decreases-add_parts l = 4 * l.below + 1

abbrev pub decreases-add_part : goal.decreases-add_part
decreases-add_part l = 4 * l.below

abbrev pub invariant-add_parts-loop-part : goal.invariant-add_parts-loop-part
invariant-add_parts-loop-part l =
    Joins (shown_below l.fn.below) (count_below l.fn.below (record { rows = l.fn.state.rows; viewer = l.fn.viewer; ask = l.fn.ask; moment = l.fn.now })) (record { rows = l.fn.state.rows; viewer = l.fn.viewer; ask = l.fn.ask; moment = l.fn.now }) (pieces_of (parts_of (take l.part-index l.fn.parts))) l.fn.filled l.filled
