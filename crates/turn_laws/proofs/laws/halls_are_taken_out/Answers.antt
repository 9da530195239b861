use Rattle.turn_laws.proofs.Taking.{halls_out_leads}
use Rattle.turn_laws.proofs.laws.halls_are_taken_out.Goals as goal

pub returns : goal.returns
returns g c = halls_out_leads g.L.Slot.noted g.L.Slot.noted_desk
