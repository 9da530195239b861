use Rattle.http_heads.proofs.Extents.{reaches}
use Rattle.http_heads.proofs.extent.extent_in.Goals as goal

pub returns : goal.returns
returns c = reaches c.args.bytes.now c.extent_of.result c.extent_of.ensures
