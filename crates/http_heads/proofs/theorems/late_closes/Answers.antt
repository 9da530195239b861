use Rattle.http_heads.proofs.Laws.{late_closes}
use Rattle.http_heads.proofs.theorems.late_closes.Goals as goal

pub returns : goal.returns
returns c = late_closes
