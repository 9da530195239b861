use Rattle.turn_laws.proofs.Seating.{passes_seated}
use Rattle.turn_laws.proofs.laws.passes_get_seats.Goals as goal

pub returns : goal.returns
returns g c = passes_seated g.L.Slot.noted g.L.Slot.noted_desk
