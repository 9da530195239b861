use Rattle.cacheability.proofs.Texts.{same_contexts_told}
use Rattle.element_entries.proofs.finding.same_contexts.Goals as goal

pub returns : goal.returns
returns c = same_contexts_told c.args.one.now c.args.two.now c.eq.result c.eq.ensures
