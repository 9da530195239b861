use Rattle.turn_laws.proofs.Taking.{doors_marked_leads}
use Rattle.turn_laws.proofs.laws.doors_are_marked.Goals as goal

pub returns : goal.returns
returns g c = doors_marked_leads g.L.Slot.noted g.L.Slot.noted_desk
