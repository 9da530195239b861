use Rattle.site_targets.proofs.Meaning.{mean}
use Rattle.site_targets.proofs.laws.targets_mean.Goals as goal

pub returns : goal.returns
returns c = mean
