use Rattle.table_runs.proofs.Serving.{stores_tell}
use Rattle.table_runs.proofs.laws.stores_tell.Goals as goal

pub returns : goal.returns
returns c = stores_tell
