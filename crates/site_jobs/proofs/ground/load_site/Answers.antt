use Rattle.site_jobs.specs.Ground.{IsNoSiteOf}
use Rattle.site_jobs.proofs.Refusing.{held}
use Rattle.site_jobs.proofs.ground.load_site.Goals as goal

pub returns-clause-none : goal.returns-clause-none
returns-clause-none g c =
    held IsNoSiteOf (g.K.Keeper.kept c.args.keeper.now) c.in_ok-stored.stored c.site_of.result c.in_ok-stored.ensures.held c.site_of.ensures.none
