use Rattle.http_heads.proofs.Laws.{refused_stays}
use Rattle.http_heads.proofs.theorems.refused_stays.Goals as goal

pub returns : goal.returns
returns c = refused_stays
