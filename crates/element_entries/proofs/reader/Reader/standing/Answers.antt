use Rattle.std.proofs.Common.{◌∙◌}
use Rattle.element_entries.proofs.reader.Reader.standing.Goals as goal

pub invariant_of-result : goal.invariant_of-result
invariant_of-result c = (c.requires.account, c.in_ok-values.ensures ∙ c.requires.values c.args.ask.now c.args.moment)
