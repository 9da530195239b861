use Rattle.cacheability.proofs.Texts.{same_tags_told}
use Rattle.cacheability.proofs.cacheability.same_tags.Goals as goal

pub returns : goal.returns
returns c = same_tags_told c.args.one.now c.args.other.now c.equals.result c.equals.ensures
