use Rattle.turn_laws.proofs.Seating.{passes_drawn_leads}
use Rattle.turn_laws.proofs.laws.passes_are_drawn.Goals as goal

pub returns : goal.returns
returns g c = passes_drawn_leads g.L.Slot.noted g.L.Slot.noted_desk
