use Rattle.std.proofs.Common.{◌∙◌}
use Rattle.edit_machine.proofs.Trees.{comes_back_set}
use Rattle.edit_machine.proofs.terms.is_cyclic.Goals as goal

pub returns : goal.returns
returns c = c.comes_back_with.ensures ∙ comes_back_set c.args.state.now.rows c.stands_in_order.ensures.rows c.args.tid c.requires c.args.changed.now c.args.id
