use Rattle.turn_laws.proofs.Turning.{looks_counted_leads}
use Rattle.turn_laws.proofs.laws.looks_are_counted.Goals as goal

pub returns : goal.returns
returns g c = looks_counted_leads g.L.Slot.noted g.L.Slot.noted_desk
