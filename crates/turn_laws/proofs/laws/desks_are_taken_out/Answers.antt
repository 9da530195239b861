use Rattle.turn_laws.proofs.Taking.{desks_out_leads}
use Rattle.turn_laws.proofs.laws.desks_are_taken_out.Goals as goal

pub returns : goal.returns
returns g c = desks_out_leads g.L.Slot.noted g.L.Slot.noted_desk
