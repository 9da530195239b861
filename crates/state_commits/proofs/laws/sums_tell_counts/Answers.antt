use Rattle.state_commits.proofs.Logs as laws
use Rattle.state_commits.proofs.laws.sums_tell_counts.Goals as goal

pub returns : goal.returns
returns c = laws.sums_tell_counts
