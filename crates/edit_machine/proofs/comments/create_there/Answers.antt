use Rattle.std.proofs.Common.{◌≡◌, sym, ap, ◌∙◌, None}
use Rattle.std.proofs.lemmas.Result.{IfOk-weaker}
use Rattle.site_commands.specs.Causes.{of_body}
use Rattle.site_commands.specs.Comments.{create_denials, create_right}
use Rattle.edit_machine.specs.First.{first_cause}
use Rattle.edit_machine.proofs.Decided.{refused_first, passed_first}
use Rattle.edit_machine.proofs.comments.create_there.Goals as goal

pub returns-in-Some : goal.returns-in-Some
returns-in-Some c =
    let viewer = c.args.account.now.viewer in
    let causes = create_denials c.args.state.now.rows viewer c.args.nid in
    let next = create_right c.args.state.now viewer c.args.now c.args.pass c.args.nid in
    refused_first causes (of_body c.args.body.now next) c.in-Some.refusal (sym c.in-Some.is ∙ c.in_ok-refusal.ensures)

pub returns-in-Broken : goal.returns-in-Broken
returns-in-Broken c =
    let viewer = c.args.account.now.viewer in
    let causes = create_denials c.args.state.now.rows viewer c.args.nid in
    let next = create_right c.args.state.now viewer c.args.now c.args.pass c.args.nid in
    let none : None ≡ first_cause causes = sym c.in_default.is ∙ c.in_ok-refusal.ensures in
    IfOk-weaker c.broken_body.result _ _
    (λ verdict told. told ∙ ap (λ body. of_body body next) (sym c.in-Broken.is) ∙ passed_first causes (of_body c.args.body.now next) none)
    c.broken_body.ensures

pub returns-in-Right : goal.returns-in-Right
returns-in-Right c =
    let viewer = c.args.account.now.viewer in
    let causes = create_denials c.args.state.now.rows viewer c.args.nid in
    let next = create_right c.args.state.now viewer c.args.now c.args.pass c.args.nid in
    let none : None ≡ first_cause causes = sym c.in_default.is ∙ c.in_ok-refusal.ensures in
    IfOk-weaker c.create_right.result _ _
    (λ verdict told. told ∙ ap (λ body. of_body body next) (sym c.in-Right.is) ∙ passed_first causes (of_body c.args.body.now next) none)
    c.create_right.ensures
