use Rattle.std.proofs.Common.{◌∙◌, ap}
use Rattle.std.specs.BTreeMap.{get}
use Rattle.std.specs.Ordering.{nat_cmp}
use Rattle.content_state.specs.State.{State}
use Rattle.site_rehearsal.specs.Seats.{seat_or}
use Rattle.site_rehearsal.proofs.Turns.{stage_after}
use Rattle.site_rehearsal.proofs.rehearsing.take_turn.Goals as goal

pub returns-clause-stage : goal.returns-clause-stage
returns-clause-stage g c =
    stage_after c.args.turn.now.requester c.args.hall.now c.act.new.hall c.args.seats.now c.take_seat.new.seats c.put_seat.new.seats c.in_ok-seat.seat c.act.new.seat
    (c.in_ok-seat.ensures.seat ∙ ap (λ (b : State). seat_or b (get nat_cmp c.args.seats.now c.args.turn.now.requester)) c.requires.base)
    c.take_seat.ensures.others c.in_ok-put_seat.ensures.here c.put_seat.ensures.others c.in_ok-reply.ensures.goes c.requires.stage c.in_ok-reply.ensures.seat
