use Rattle.std.proofs.Common.{◌≡◌, sym, ap, ◌∙◌, None}
use Rattle.std.proofs.lemmas.Result.{IfOk-weaker}
use Rattle.indexed_rows.specs.Rows.{seq_of}
use Rattle.site_commands.specs.Causes.{of_body, of_target}
use Rattle.site_commands.specs.Nodes.{create_denials, create_right}
use Rattle.edit_machine.specs.First.{first_cause}
use Rattle.edit_machine.proofs.Decided.{refused_first, passed_first}
use Rattle.edit_machine.proofs.nodes.create_of_type.Goals as goal

pub returns-in-Some : goal.returns-in-Some
returns-in-Some c =
    let rows = c.args.state.now.rows in
    let viewer = c.args.account.now.viewer in
    let asked = c.args.asked.now in
    let causes = create_denials rows viewer c.args.name.now c.args.node_type.now asked.keys in
    refused_first causes (of_body asked.body (λ new. of_target (seq_of rows) (create_right c.args.state.now viewer c.args.name.now c.args.node_type.now c.args.now c.args.pass new))) c.in-Some.refusal (sym c.in-Some.is ∙ c.in_ok-refusal.ensures rows c.requires)

pub returns-in-Broken : goal.returns-in-Broken
returns-in-Broken c =
    let rows = c.args.state.now.rows in
    let viewer = c.args.account.now.viewer in
    let asked = c.args.asked.now in
    let causes = create_denials rows viewer c.args.name.now c.args.node_type.now asked.keys in
    let none : None ≡ first_cause causes = sym c.in_default.is ∙ c.in_ok-refusal.ensures rows c.requires in
    IfOk-weaker c.broken_body.result _ _
    (λ verdict told. told ∙ ap (λ body. of_body body (λ new. of_target (seq_of rows) (create_right c.args.state.now viewer c.args.name.now c.args.node_type.now c.args.now c.args.pass new))) (sym c.in-Broken.is) ∙ passed_first causes (of_body asked.body (λ new. of_target (seq_of rows) (create_right c.args.state.now viewer c.args.name.now c.args.node_type.now c.args.now c.args.pass new))) none)
    c.broken_body.ensures

pub returns-in-Right : goal.returns-in-Right
returns-in-Right c =
    let rows = c.args.state.now.rows in
    let viewer = c.args.account.now.viewer in
    let asked = c.args.asked.now in
    let causes = create_denials rows viewer c.args.name.now c.args.node_type.now asked.keys in
    let none : None ≡ first_cause causes = sym c.in_default.is ∙ c.in_ok-refusal.ensures rows c.requires in
    IfOk-weaker c.create_right.result _ _
    (λ verdict told. told ∙ ap (λ body. of_body body (λ new. of_target (seq_of rows) (create_right c.args.state.now viewer c.args.name.now c.args.node_type.now c.args.now c.args.pass new))) (sym c.in-Right.is) ∙ passed_first causes (of_body asked.body (λ new. of_target (seq_of rows) (create_right c.args.state.now viewer c.args.name.now c.args.node_type.now c.args.now c.args.pass new))) none)
    c.create_right.ensures
