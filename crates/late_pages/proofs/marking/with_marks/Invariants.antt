use Rattle.std.proofs.Common.{◌≡◌, ◌++◌, drop, length}
use Rattle.std.specs.Arc.{arc_value}
use Rattle.html_out.specs.Segment.{parts_of}
use Rattle.render_canvas.specs.Board.{pieces_of}
use Rattle.late_pages.specs.Late.{late_places, marked}
use Rattle.late_pages.proofs.marking.with_marks.Given as goal

-- what is left to be marked stands behind what is there
abbrev pub invariant-loop-part : goal.invariant-loop-part
invariant-loop-part l = record {
  text : l.marked.text ++ marked (arc_value l.meta) (length l.marked.holes.items) (pieces_of (parts_of (drop l.part-index l.parts))) ≡ marked (arc_value l.meta) 0 (pieces_of (parts_of l.parts));
  places : l.marked.holes.items ++ late_places (pieces_of (parts_of (drop l.part-index l.parts))) ≡ late_places (pieces_of (parts_of l.parts));
}
