use Rattle.cacheability.proofs.Texts.{same_contexts_told}
use Rattle.cacheability.proofs.cacheability.same_contexts.Goals as goal

pub returns : goal.returns
returns c = same_contexts_told c.args.one.now c.args.other.now c.equals.result c.equals.ensures
