use Rattle.site_jobs.specs.Ground.{IsNoGround}
use Rattle.site_jobs.proofs.Refusing.{held}
use Rattle.site_jobs.proofs.ground.load_ground.Goals as goal

pub returns-clause-none : goal.returns-clause-none
returns-clause-none g c =
    held IsNoGround (g.K.Keeper.kept c.args.keeper.now) c.in_ok-stored.stored c.ground_of.result c.in_ok-stored.ensures.held c.ground_of.ensures.none
