use Rattle.std.proofs.Common.{◌≡◌, sym, ap, ◌∙◌, None}
use Rattle.std.proofs.lemmas.Result.{IfOk-weaker}
use Rattle.site_commands.specs.Causes.{of_body}
use Rattle.site_commands.specs.Users.{denials, change_right}
use Rattle.edit_machine.specs.First.{first_cause}
use Rattle.edit_machine.proofs.Decided.{passed_first}
use Rattle.edit_machine.proofs.users.change_there.Goals as goal

pub returns-in-Right : goal.returns-in-Right
returns-in-Right c =
    let rows = c.args.state.now.rows in
    let asked = c.args.asked.now in
    let causes = denials rows c.args.account.now.viewer asked.keys in
    let next = change_right c.args.state.now asked.salt c.args.pass c.args.uid c.args.user.now in
    let none : None ≡ first_cause causes = sym c.in_default.is ∙ c.in_ok-refusal.ensures rows c.requires in
    IfOk-weaker c.change_right.result _ _
    (λ verdict told. told ∙ ap (λ body. of_body body next) (sym c.in-Right.is) ∙ passed_first causes (of_body asked.body next) none)
    c.change_right.ensures
