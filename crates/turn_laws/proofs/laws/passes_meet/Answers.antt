use Rattle.turn_laws.proofs.Seating.{passes_met_leads}
use Rattle.turn_laws.proofs.laws.passes_meet.Goals as goal

pub returns : goal.returns
returns g c = passes_met_leads g.L.Slot.noted g.L.Slot.noted_desk
