use Rattle.std.proofs.Common.{◌≡◌, sym, ap, ◌∙◌, None}
use Rattle.std.proofs.lemmas.Result.{IfOk-weaker}
use Rattle.indexed_rows.specs.Rows.{seq_of}
use Rattle.site_commands.specs.Causes.{of_body, of_target}
use Rattle.site_commands.specs.declared.body.NewUser.{NewUser}
use Rattle.site_commands.specs.Users.{denials, create_right}
use Rattle.edit_machine.specs.First.{first_cause}
use Rattle.edit_machine.proofs.Decided.{refused_first, passed_first}
use Rattle.edit_machine.proofs.users.create_user.Goals as goal

pub returns-in-Some : goal.returns-in-Some
returns-in-Some c =
    let state = c.args.state.now in
    let rows = state.rows in
    let asked = c.args.asked.now in
    let next = λ (new : NewUser). of_target (seq_of rows) (create_right state asked.salt c.args.now c.args.pass new) in
    refused_first (denials rows c.args.account.now.viewer asked.keys) (of_body asked.body next) c.in-Some.refusal (sym c.in-Some.is ∙ c.in_ok-refusal.ensures rows c.requires)

pub returns-in-Broken : goal.returns-in-Broken
returns-in-Broken c =
    let state = c.args.state.now in
    let rows = state.rows in
    let asked = c.args.asked.now in
    let causes = denials rows c.args.account.now.viewer asked.keys in
    let next = λ (new : NewUser). of_target (seq_of rows) (create_right state asked.salt c.args.now c.args.pass new) in
    let none : None ≡ first_cause causes = sym c.in_default.is ∙ c.in_ok-refusal.ensures rows c.requires in
    IfOk-weaker c.broken_body.result _ _
    (λ verdict told. told ∙ ap (λ body. of_body body next) (sym c.in-Broken.is) ∙ passed_first causes (of_body asked.body next) none)
    c.broken_body.ensures

pub returns-in-Right : goal.returns-in-Right
returns-in-Right c =
    let state = c.args.state.now in
    let rows = state.rows in
    let asked = c.args.asked.now in
    let causes = denials rows c.args.account.now.viewer asked.keys in
    let next = λ (new : NewUser). of_target (seq_of rows) (create_right state asked.salt c.args.now c.args.pass new) in
    let none : None ≡ first_cause causes = sym c.in_default.is ∙ c.in_ok-refusal.ensures rows c.requires in
    IfOk-weaker c.create_right.result _ _
    (λ verdict told. told ∙ ap (λ body. of_body body next) (sym c.in-Right.is) ∙ passed_first causes (of_body asked.body next) none)
    c.create_right.ensures
