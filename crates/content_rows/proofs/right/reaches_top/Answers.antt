use Rattle.std.proofs.Common.{◌≡◌, ◌+◌, ◌-◌, ◌∙◌, sym, ap, arith}
use Rattle.content_rows.specs.MenuTree.{reaches_top}
use Rattle.content_rows.proofs.MenuWalk.{at_top, lost, goes_up, spent}
use Rattle.content_rows.proofs.right.reaches_top.Goals as goal

pub returns-in_default : goal.returns-in_default
returns-in_default c =
    sym (at_top (c.args.most - c.steps._step) c.args.links.now c.steps.at.now (λ e. omega arith) c.in_default.is) ∙ c.steps.invariant

pub returns-in_default-link_at : goal.returns-in_default-link_at
returns-in_default-link_at c =
    sym (lost (c.args.most - c.steps._step) c.args.links.now c.steps.at.now c.in-Some.parent (λ e. omega arith) c.in-Some.is (sym c.in_default-link_at.ensures))
    ∙ c.steps.invariant

pub steps-preserved : goal.steps-preserved
steps-preserved c =
    let left : c.args.most - (c.steps._step + 1) ≡ c.args.most - c.steps._step - 1 = omega arith in
    let up = goes_up (c.args.most - c.steps._step) c.args.links.now c.steps.at.now c.in-Some-link_at.above.now c.in-Some.parent (λ e. omega arith) c.in-Some.is (sym c.in-Some-link_at.ensures) in
    ap (λ n. reaches_top n c.args.links.now c.in-Some-link_at.above.now) left ∙ sym up ∙ c.steps.invariant

pub returns : goal.returns
returns c = sym (spent (c.args.most - c.steps._step) c.args.links.now c.steps.at.now (omega arith)) ∙ c.steps.invariant
