use Rattle.site_jobs.proofs.Keeping.{not_kept}
use Rattle.site_jobs.proofs.importing.import_into.Goals as goal

pub returns-clause-none : goal.returns-clause-none
returns-clause-none g c =
    not_kept (g.S.Source.left c.args.source.now) c.in_ok-base.base c.in_ok-imported.imported c.in-Err.why (g.K.Keeper.kept c.args.keeper.now) _ _
    c.in_ok-base.ensures.stays c.in_ok-base.ensures.holds c.in_ok-base.ensures.ground c.in_ok-imported.ensures.told c.in-Err.ensures.none
