use Rattle.std.proofs.Common.{subst}
use Rattle.site_hall.specs.Alone.{IsAlone}
use Rattle.site_hall.proofs.Callers.{alone_own}
use Rattle.site_hall.proofs.alone.AloneHouse.faults.Goals as goal

pub returns-clause-own : goal.returns-clause-own
returns-clause-own g c = alone_own c.args.self.now (subst IsAlone c.self.view_is c.self.invariant)
