use Rattle.std.proofs.Common.{refl, subst}
use Rattle.site_jobs.specs.Jobs.{all, IsNoImport}
use Rattle.site_jobs.specs.declared.fault.NoJob.{NoJob}
use Rattle.site_jobs.proofs.job.import_rows.Goals as goal

pub returns-in-Ok-clause-does : goal.returns-in-Ok-clause-does
returns-in-Ok-clause-does g c = record { keeps = all c.in-Ok.counted.rows c.in-Ok.counted.changed c.in-Ok.ensures.kept; written = refl }

pub returns-in-Err-Keeper-clause-does : goal.returns-in-Err-Keeper-clause-does
returns-in-Err-Keeper-clause-does g c = record {
  keeps = subst (λ (w : NoJob). IsNoImport (g.S.Source.left c.args.source.now) w (g.K.Keeper.kept c.args.keeper.now) (g.K.Keeper.kept c.import_into.new.keeper)) c.in-Err-Keeper.field-0-is c.in-Err-Keeper.ensures.none;
  written = refl;
}
