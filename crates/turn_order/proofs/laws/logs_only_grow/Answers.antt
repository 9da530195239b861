use Rattle.turn_order.proofs.Order.{logs_grow}
use Rattle.turn_order.proofs.laws.logs_only_grow.Goals as goal

pub returns : goal.returns
returns g c = logs_grow g.L.Slot.noted g.L.Slot.noted_desk
