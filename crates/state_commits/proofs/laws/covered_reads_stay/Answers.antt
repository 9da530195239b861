use Rattle.state_commits.proofs.Covered as laws
use Rattle.state_commits.proofs.laws.covered_reads_stay.Goals as goal

pub returns : goal.returns
returns c = laws.covered_reads_stay
