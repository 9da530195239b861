use Rattle.http_heads.proofs.Total.{reads_some}
use Rattle.http_heads.proofs.theorems.reads_some.Goals as goal

pub returns : goal.returns
returns c = reads_some
