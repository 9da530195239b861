use Rattle.std.proofs.Common.{refl}
use Rattle.site_cli.proofs.Causes.{drill_cause}
use Rattle.site_cli.proofs.drilling.drill_job.Goals as goal

pub returns-clause-cause : goal.returns-clause-cause
returns-clause-cause g c =
    drill_cause c.drill.result _ _ _ c.status_of_drill.ensures c.drill.ensures.cause refl (record { own = refl; rows = refl; doors = refl }) refl
