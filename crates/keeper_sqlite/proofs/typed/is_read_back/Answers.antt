use Rattle.keeper_sqlite.proofs.TagTexts.{tag_back}
use Rattle.keeper_sqlite.proofs.typed.is_read_back.Goals as goal

pub returns : goal.returns
returns c = tag_back c.args.tag.now c.is_typed.ensures
