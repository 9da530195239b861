use Rattle.run_laws.proofs.Servers.{servers}
use Rattle.run_laws.proofs.laws.servers_complete.Goals as goal

pub returns : goal.returns
returns c = servers
