use Rattle.turn_order.proofs.Order.{steps_made}
use Rattle.turn_order.proofs.laws.steps_are_made.Goals as goal

pub returns : goal.returns
returns g c = steps_made g.L.Slot.noted g.L.Slot.noted_desk g.P.Play.then
