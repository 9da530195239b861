use Rattle.site_http.proofs.Longer.{grows}
use Rattle.site_http.proofs.connection.connection_grows.Goals as goal

pub returns : goal.returns
returns c = grows
