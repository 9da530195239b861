use Rattle.run_laws.proofs.Completing.{workers}
use Rattle.run_laws.proofs.laws.workers_complete.Goals as goal

pub returns : goal.returns
returns c = workers
