use Rattle.turn_laws.proofs.Beginning.{sites_opened}
use Rattle.turn_laws.proofs.laws.sites_open.Goals as goal

pub returns : goal.returns
returns g c = sites_opened g.L.Slot.noted g.L.Slot.noted_desk
