use Rattle.run_laws.proofs.Completing.{complete}
use Rattle.run_laws.proofs.laws.connections_complete.Goals as goal

pub returns : goal.returns
returns c = complete
