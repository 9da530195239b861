use Rattle.turn_laws.proofs.Closing.{sites_closed}
use Rattle.turn_laws.proofs.laws.sites_close.Goals as goal

pub returns : goal.returns
returns g c = sites_closed g.L.Slot.noted g.L.Slot.noted_desk
