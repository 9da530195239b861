use Rattle.std.proofs.Common.{◌≡◌, [], ◌∷◌, sym, ap, ◌∙◌, None}
use Rattle.std.proofs.lemmas.Result.{IfOk-weaker}
use Rattle.content_rows.specs.declared.cell.Cell.TheVariants as cell
use Rattle.content_rows.specs.declared.row.Row.TheVariants as row
use Rattle.content_rows.specs.declared.row.Term.{Term}
use Rattle.indexed_rows.specs.Rows.{with_row}
use Rattle.site_commands.specs.Causes.{set, commit_of, accepted}
use Rattle.site_commands.specs.Terms.{sent_parent_refusals, change_refusals, patched_term}
use Rattle.site_commands.specs.declared.answer.Done.TheVariants as done
use Rattle.edit_machine.specs.First.{first_cause}
use Rattle.edit_machine.proofs.Decided.{refused_first, passed_first}
use Rattle.edit_machine.proofs.terms.change_right.Goals as goal

pub returns-in-Some : goal.returns-in-Some
returns-in-Some c =
    let state = c.args.state.now in
    let patch = c.args.patch.now in
    let changed = patched_term c.args.term.now patch in
    let causes = change_refusals state.rows c.args.tid c.args.term.now patch in
    let commit = commit_of c.args.pass (set (cell.Term c.args.tid) (row.Term changed) ∷ []) in
    refused_first causes (accepted state commit done.Saved) c.in-Some.refusal
    (sym c.in-Some.is ∙ c.in_ok-refusal.ensures ∙ ap (λ (t : Term). first_cause (sent_parent_refusals state.rows patch.parent (with_row state.rows (cell.Term c.args.tid) (row.Term t)))) c.in_ok-changed.ensures)

pub returns : goal.returns
returns c =
    let state = c.args.state.now in
    let patch = c.args.patch.now in
    let changed = patched_term c.args.term.now patch in
    let causes = change_refusals state.rows c.args.tid c.args.term.now patch in
    let commit = commit_of c.args.pass (set (cell.Term c.args.tid) (row.Term changed) ∷ []) in
    let none : None ≡ first_cause causes =
    sym c.in_default.is ∙ c.in_ok-refusal.ensures ∙ ap (λ (t : Term). first_cause (sent_parent_refusals state.rows patch.parent (with_row state.rows (cell.Term c.args.tid) (row.Term t)))) c.in_ok-changed.ensures in
    IfOk-weaker c.accepted.result _ _
    (λ verdict told. told ∙ ap (λ made. accepted state made done.Saved) (c.in_ok-commit.ensures ∙ ap (λ (t : Term). commit_of c.args.pass (set (cell.Term c.args.tid) (row.Term t) ∷ [])) c.in_ok-changed.ensures) ∙ passed_first causes (accepted state commit done.Saved) none)
    c.accepted.ensures
