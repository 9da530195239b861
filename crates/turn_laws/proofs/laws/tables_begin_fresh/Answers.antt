use Rattle.turn_laws.proofs.Beginning.{begin_fresh}
use Rattle.turn_laws.proofs.laws.tables_begin_fresh.Goals as goal

pub returns : goal.returns
returns g c = begin_fresh g.L.Slot.noted g.L.Slot.noted_desk
