use Rattle.std.proofs.Common.{◌≡◌, ◌+◌, ◌-◌, sym, ap, arith, ◌∙◌}
use Rattle.content_state.specs.Moves.{above_in}
use Rattle.content_state.specs.Chain.{Up, is_within}
use Rattle.content_state.proofs.Chains.{found_here, not_above, looks_above, not_found}
use Rattle.content_state.proofs.chain.is_within.Goals as goal

pub returns-then-at-top : goal.returns-then-at-top
returns-then-at-top c =
    sym (c.steps.invariant ∙ found_here (above_in c.args.state.now.rows c.args.tree) c.args.top (c.args.most - c.steps._step) c.steps.at (λ e. omega arith) c.if-at-top.true)

pub returns-in_default : goal.returns-in_default
returns-in_default c =
    sym (c.steps.invariant ∙ not_above (above_in c.args.state.now.rows c.args.tree) c.args.top (c.args.most - c.steps._step) c.steps.at (λ e. omega arith) c.if-at-top.false (sym c.stored_parent.ensures ∙ c.in_default.is))

pub steps-preserved : goal.steps-preserved
steps-preserved c =
    let up : Up = above_in c.args.state.now.rows c.args.tree in
    let left : c.args.most - c.steps._step - 1 ≡ c.args.most - (c.steps._step + 1) = omega arith in
    c.steps.invariant
    ∙ looks_above up c.args.top (c.args.most - c.steps._step) c.steps.at c.in-Some.above (λ e. omega arith) c.if-at-top.false (sym c.stored_parent.ensures ∙ c.in-Some.is)
    ∙ ap (λ n. is_within up n c.args.top c.in-Some.above) left

pub returns : goal.returns
returns c = sym (c.steps.invariant ∙ not_found (above_in c.args.state.now.rows c.args.tree) c.args.top (c.args.most - c.steps._step) c.steps.at (omega arith))
