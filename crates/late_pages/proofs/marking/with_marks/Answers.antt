use Rattle.std.specs.Arc.{arc_value}
use Rattle.html_out.specs.Segment.{parts_of}
use Rattle.render_canvas.specs.Board.{pieces_of}
use Rattle.late_pages.proofs.Marks.{marks_begun, places_begun, next_marked, next_left, all_marked, all_left}
use Rattle.late_pages.proofs.marking.with_marks.Goals as goal

pub loop-part-init : goal.loop-part-init
loop-part-init c = record {
  text = marks_begun (arc_value c.args.meta.now) (pieces_of (parts_of c.args.parts.now)) c.in_ok-with_capacity.field-0 c.new.result.items c.in_ok-with_capacity.ensures c.new.ensures.items;
  places = places_begun (pieces_of (parts_of c.args.parts.now)) c.new.result.items c.new.ensures.items;
}

pub loop-part-preserved : goal.loop-part-preserved
loop-part-preserved c = record {
  text = next_marked c.args.parts.now c.loop-part.part-index _ _ _ _ _ _ _ c.loop-part-test.true c.part-item.is c.loop-part.invariant.text c.in_ok-mark_part.ensures.text;
  places = next_left c.args.parts.now c.loop-part.part-index _ _ _ _ c.loop-part-test.true c.part-item.is c.loop-part.invariant.places c.in_ok-mark_part.ensures.places;
}

pub returns-clause-text : goal.returns-clause-text
returns-clause-text c = all_marked c.args.parts.now c.loop-part.part-index _ _ _ _ c.loop-part-test.false c.loop-part.invariant.text

pub returns-clause-places : goal.returns-clause-places
returns-clause-places c = all_left c.args.parts.now c.loop-part.part-index _ _ c.loop-part-test.false c.loop-part.invariant.places
