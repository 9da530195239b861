use Rattle.std.proofs.Common.{◌∙◌}
use Rattle.edit_machine.proofs.Trees.{longer_set}
use Rattle.edit_machine.proofs.terms.is_deep.Goals as goal

pub returns : goal.returns
returns c = c.is_longer_with.ensures ∙ longer_set c.args.state.now.rows c.args.tid c.args.changed.now 9 c.args.id
