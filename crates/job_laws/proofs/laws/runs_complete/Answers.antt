use Rattle.job_laws.proofs.Running.{runs}
use Rattle.job_laws.proofs.laws.runs_complete.Goals as goal

pub returns : goal.returns
returns c = runs
