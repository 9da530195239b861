use Rattle.turn_laws.proofs.Seating.{stay_at_splits, stay_at_joins}
use Rattle.turn_laws.proofs.laws.halls_stay_beside_seats.Goals as goal

pub returns-clause-split : goal.returns-clause-split
returns-clause-split g c = stay_at_splits g.L.Slot.noted g.L.Slot.noted_desk

pub returns-clause-join : goal.returns-clause-join
returns-clause-join g c = stay_at_joins g.L.Slot.noted g.L.Slot.noted_desk
