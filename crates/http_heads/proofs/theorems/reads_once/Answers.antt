use Rattle.http_heads.proofs.Laws.{reads_once}
use Rattle.http_heads.proofs.theorems.reads_once.Goals as goal

pub returns : goal.returns
returns c = reads_once
