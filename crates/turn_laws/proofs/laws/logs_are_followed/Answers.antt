use Rattle.turn_laws.proofs.Turning.{logs_follow_leads}
use Rattle.turn_laws.proofs.laws.logs_are_followed.Goals as goal

pub returns : goal.returns
returns g c = logs_follow_leads g.L.Slot.noted g.L.Slot.noted_desk
