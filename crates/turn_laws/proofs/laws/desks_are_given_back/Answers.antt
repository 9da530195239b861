use Rattle.turn_laws.proofs.Taking.{desks_back_leads}
use Rattle.turn_laws.proofs.laws.desks_are_given_back.Goals as goal

pub returns : goal.returns
returns g c = desks_back_leads g.L.Slot.noted g.L.Slot.noted_desk
