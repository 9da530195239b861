use Rattle.turn_laws.proofs.Seating.{passes_joined}
use Rattle.turn_laws.proofs.laws.passes_join_seats.Goals as goal

pub returns : goal.returns
returns g c = passes_joined g.L.Slot.noted g.L.Slot.noted_desk
