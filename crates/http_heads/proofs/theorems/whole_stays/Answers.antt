use Rattle.http_heads.proofs.Laws.{whole_stays}
use Rattle.http_heads.proofs.theorems.whole_stays.Goals as goal

pub returns : goal.returns
returns c = whole_stays
