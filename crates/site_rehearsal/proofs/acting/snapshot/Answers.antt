use Rattle.std.proofs.Common.{◌∙◌, ap, refl}
use Rattle.content_state.specs.State.{State}
use Rattle.site_rehearsal.proofs.Leaving.{newest_number, on_newest, seat_with, same_seat}
use Rattle.site_rehearsal.proofs.acting.snapshot.Goals as goal

pub returns-clause-acts : goal.returns-clause-acts
returns-clause-acts g c = λ n. (
  c.number.ensures ∙ ap (λ (s : State). s.number) c.deref.ensures ∙ newest_number c.args.hall.now _ c.in_ok-seat-inside.ensures,
  refl,
  same_seat _ _ c.args.seat.now _ c.seat.view_is c.in_ok-seat-inside.ensures,
)

pub returns-clause-seat : goal.returns-clause-seat
returns-clause-seat g c = seat_with _ _ _ c.args.seat.now _ c.seat.view_is (on_newest c.args.hall.now c.args.seat.now _ c.len-published.ensures.is_hall c.in_ok-seat-inside.ensures c.requires)
