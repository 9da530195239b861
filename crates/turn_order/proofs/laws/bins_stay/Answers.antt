use Rattle.turn_order.proofs.Bins.{bins_stay}
use Rattle.turn_order.proofs.laws.bins_stay.Goals as goal

pub returns : goal.returns
returns g c = bins_stay g.L.Slot.noted g.L.Slot.noted_desk
