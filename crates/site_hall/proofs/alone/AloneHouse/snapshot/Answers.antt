use Rattle.std.proofs.Common.{subst}
use Rattle.site_hall.specs.Alone.{AloneView, IsAlone}
use Rattle.site_hall.specs.Hall.{IsHall}
use Rattle.site_hall.proofs.Callers.{alone_own, valid_seen}
use Rattle.site_hall.proofs.alone.AloneHouse.snapshot.Goals as goal

pub returns-clause-valid : goal.returns-clause-valid
returns-clause-valid g c =
    valid_seen c.args.self.now.hall (subst (λ (a : AloneView). IsHall a.hall) c.self.view_is c.self.invariant.is_hall)

pub returns-clause-own : goal.returns-clause-own
returns-clause-own g c = alone_own c.args.self.now (subst IsAlone c.self.view_is c.self.invariant)
