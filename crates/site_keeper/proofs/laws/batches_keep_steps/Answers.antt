use Rattle.site_keeper.proofs.Stepping.{keeps_step}
use Rattle.site_keeper.proofs.laws.batches_keep_steps.Goals as goal

pub returns : goal.returns
returns c = keeps_step
