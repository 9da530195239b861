use Rattle.job_laws.proofs.Replaying.{replays}
use Rattle.job_laws.proofs.laws.replays_complete.Goals as goal

pub returns : goal.returns
returns c = replays
