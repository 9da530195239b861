use Rattle.turn_laws.proofs.Taking.{gates_marked_leads}
use Rattle.turn_laws.proofs.laws.gates_are_marked.Goals as goal

pub returns : goal.returns
returns g c = gates_marked_leads g.L.Slot.noted g.L.Slot.noted_desk
