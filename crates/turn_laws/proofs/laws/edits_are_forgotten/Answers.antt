use Rattle.turn_laws.proofs.Turning.{edits_forgotten_leads}
use Rattle.turn_laws.proofs.laws.edits_are_forgotten.Goals as goal

pub returns : goal.returns
returns g c = edits_forgotten_leads g.L.Slot.noted g.L.Slot.noted_desk
