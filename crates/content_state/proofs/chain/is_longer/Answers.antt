use Rattle.std.proofs.Common.{sym, arith, ◌∙◌}
use Rattle.content_state.specs.Moves.{above_in, moved_by}
use Rattle.content_state.proofs.Chains.{at_top, one_up, goes_past}
use Rattle.content_state.proofs.chain.is_longer.Goals as goal

pub returns-in_default : goal.returns-in_default
returns-in_default c =
    sym (at_top (moved_by c.args.made (above_in c.args.state.now.rows c.args.tree)) c.args.most c.args.start c.steps._step c.steps.at c.steps.invariant (omega arith) (sym c.parent.ensures ∙ c.in_default.is))

pub steps-preserved : goal.steps-preserved
steps-preserved c =
    one_up (moved_by c.args.made (above_in c.args.state.now.rows c.args.tree)) c.args.most c.args.start c.steps._step c.steps.at c.in-Some.above c.steps.invariant (omega arith) (sym c.parent.ensures ∙ c.in-Some.is)

pub returns : goal.returns
returns c = sym (goes_past (moved_by c.args.made (above_in c.args.state.now.rows c.args.tree)) c.args.most c.args.start c.steps._step c.steps.at c.steps.invariant (omega arith))
