use Rattle.http_heads.proofs.Laws.{whole_takes}
use Rattle.http_heads.proofs.theorems.whole_takes.Goals as goal

pub returns : goal.returns
returns c = whole_takes
