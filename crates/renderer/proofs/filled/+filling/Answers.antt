use Rattle.std.proofs.Common.{sym, refl, ap}
use Rattle.std.proofs.lemmas.Result.{on_ok_weaker}
use Rattle.content_state.specs.Context.{Visit}
use Rattle.render_canvas.specs.Board.{pieces_of}
use Rattle.render_array.specs.Built.{plan_of}
use Rattle.render_array.specs.Whole.{element_level, shown_below, count_below}
use Rattle.renderer.proofs.Joining.{joins_none, joins_part, joins_all, joins_bytes, joins_open, joins_child, whole_of}
use Rattle.renderer.proofs.Standing.{stands, stays}
use Rattle.renderer.proofs.filled.+filling.Goals as goal

pub add_part-returns-in-Bytes : goal.add_part-returns-in-Bytes
add_part-returns-in-Bytes t c = rw c.in-Bytes.is (on_ok_weaker c.add_bytes.result (joins_bytes (shown_below c.args.below) _ _ _ _ _) c.add_bytes.ensures)

pub add_part-returns-in-None : goal.add_part-returns-in-None
add_part-returns-in-None t c =
    let v : Visit = record { rows = c.args.state.now.rows; viewer = c.args.viewer.now; ask = c.args.ask.now; moment = c.args.now } in
    let s = stays c.args.below v _ (sym c.in-None.ensures.child) in
    rw c.in-Hole.is (on_ok_weaker c.leave_open.result (joins_open (shown_below c.args.below) (count_below c.args.below v) v _ _ _ s.fill s.count) c.leave_open.ensures)

pub add_part-returns-in_ok-child-in-Some : goal.add_part-returns-in_ok-child-in-Some
add_part-returns-in_ok-child-in-Some t c =
    let v : Visit = record { rows = c.args.state.now.rows; viewer = c.args.viewer.now; ask = c.args.ask.now; moment = c.args.now } in
    let s = stands c.args.below c.args.ask.now.path v _ _ (sym c.in-Some.ensures.child) in
    rw c.in-Hole.is (on_ok_weaker c.add_child.result (joins_child (shown_below c.args.below) (count_below c.args.below v) v _ _ _ _ _ _ s.fill s.count c.in_ok-child-in-Some.ensures) c.add_child.ensures)

pub add_parts-loop-part-init : goal.add_parts-loop-part-init
add_parts-loop-part-init t c = joins_none _ _ _ _

pub add_parts-loop-part-preserved : goal.add_parts-loop-part-preserved
add_parts-loop-part-preserved t c = joins_part _ _ _ _ _ _ _ _ _ c.loop-part-test.true c.part-item.is c.loop-part.invariant c.in_ok-add_part.ensures

pub add_parts-returns : goal.add_parts-returns
add_parts-returns t c = joins_all _ _ _ _ _ _ _ c.loop-part.invariant c.loop-part-test.false

pub fill-returns : goal.fill-returns
fill-returns t c =
    whole_of (shown_below (element_level c.args.element)) _ _ (plan_of c.args.ask.now.path c.args.element) c.in_ok-segments.field-0 _ _ c.in_ok-segments.ensures
    (ap pieces_of c.new.ensures) c.into_vec.ensures refl refl refl refl
    (rw c.element_level-below.ensures at (rw c.parts.ensures at c.in_ok-add_parts.ensures))
