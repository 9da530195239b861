use Rattle.turn_order.proofs.Order.{never_falls}
use Rattle.turn_order.proofs.laws.numbers_never_fall.Goals as goal

pub returns : goal.returns
returns g c = never_falls g.L.Slot.noted g.L.Slot.noted_desk
