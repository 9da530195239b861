use Rattle.std.proofs.Common.{refl}
use Rattle.site_cli.proofs.Servings.{serving_cause}
use Rattle.site_cli.proofs.serving.serve_job.Goals as goal

pub returns-clause-cause : goal.returns-clause-cause
returns-clause-cause g c = serving_cause c.serve_store.result _ _ _ c.status_of_serve.ensures refl c.serve_store.ensures.output c.serve_store.ensures.place c.serve_store.ensures.keeper
