use Rattle.http_heads.proofs.Laws.{more_is_short}
use Rattle.http_heads.proofs.theorems.more_is_short.Goals as goal

pub returns : goal.returns
returns c = more_is_short
