use Rattle.turn_laws.proofs.Turning.{faults_told_leads}
use Rattle.turn_laws.proofs.laws.faults_are_told.Goals as goal

pub returns : goal.returns
returns g c = faults_told_leads g.L.Slot.noted g.L.Slot.noted_desk
