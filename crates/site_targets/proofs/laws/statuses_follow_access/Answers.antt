use Rattle.site_targets.proofs.PageStatuses.{follow_access}
use Rattle.site_targets.proofs.laws.statuses_follow_access.Goals as goal

pub returns : goal.returns
returns c = follow_access
