use Rattle.http_heads.proofs.Laws.{parses_once}
use Rattle.http_heads.proofs.theorems.parses_once.Goals as goal

pub returns : goal.returns
returns c = parses_once
