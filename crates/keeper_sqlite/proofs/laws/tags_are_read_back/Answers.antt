use Rattle.keeper_sqlite.proofs.TagTexts.{tag_back}
use Rattle.keeper_sqlite.proofs.laws.tags_are_read_back.Goals as goal

pub returns : goal.returns
returns c = tag_back
