use Rattle.turn_laws.proofs.Taking.{halls_back_leads}
use Rattle.turn_laws.proofs.laws.halls_are_given_back.Goals as goal

pub returns : goal.returns
returns g c = halls_back_leads g.L.Slot.noted g.L.Slot.noted_desk
