use Rattle.std.proofs.Common.{◌≡◌, [], ◌∷◌, ap, sym, ◌∙◌, None}
use Rattle.std.specs.Option.{option_or}
use Rattle.std.proofs.lemmas.Result.{IfOk-weaker}
use Rattle.content_rows.specs.declared.cell.Cell.{Cell}
use Rattle.site_commands.specs.Causes.{needs, removed, commit_of, accepted}
use Rattle.site_commands.specs.Config.{permission_for, cell_for, remove_refusals}
use Rattle.site_commands.specs.declared.answer.Done.TheVariants as done
use Rattle.edit_machine.specs.First.{first_cause}
use Rattle.edit_machine.proofs.Decided.{passed_first}
use Rattle.edit_machine.proofs.config.remove_there.Goals as goal

pub returns : goal.returns
returns c =
    let rows = c.args.state.now.rows in
    let viewer = c.args.account.now.viewer in
    let kind = c.args.kind in
    let refusals = remove_refusals rows kind c.args.name.now in
    let permitted : needs rows viewer (permission_for kind) ≡ None =
    sym (c.in_ok-refusal.ensures rows c.requires ∙ ap (needs rows viewer) c.permission_for.ensures) ∙ c.in_default.is in
    let removable : first_cause refusals ≡ None = sym c.in_ok-refusal-2.ensures ∙ c.in_default-2.is in
    let none : None ≡ first_cause (needs rows viewer (permission_for kind) ∷ refusals) =
    sym removable ∙ ap (λ cause. option_or cause (first_cause refusals)) (sym permitted) in
    let commit = c.in_ok-commit.ensures ∙ ap (λ (cell : Cell). commit_of c.args.pass (removed cell ∷ [])) c.cell_for.ensures in
    IfOk-weaker c.accepted.result _ _
    (λ verdict told. told ∙ ap (λ k. accepted c.args.state.now k done.Saved) commit ∙ passed_first (needs rows viewer (permission_for kind) ∷ refusals) (accepted c.args.state.now (commit_of c.args.pass (removed (cell_for kind c.args.name.now) ∷ [])) done.Saved) none)
    c.accepted.ensures
