use Rattle.std.proofs.Common.{◌≡◌, [], ◌∷◌, sym, ap, ◌∙◌, None}
use Rattle.std.proofs.lemmas.Result.{IfOk-weaker}
use Rattle.content_rows.specs.declared.cell.Cell.TheVariants as cell
use Rattle.content_rows.specs.declared.row.Row.TheVariants as row
use Rattle.content_rows.specs.declared.row.Node.{Node}
use Rattle.site_commands.specs.Causes.{set, commit_of, accepted}
use Rattle.site_commands.specs.Nodes.{change_refusals, patched_node}
use Rattle.site_commands.specs.declared.answer.Done.TheVariants as done
use Rattle.edit_machine.specs.First.{first_cause}
use Rattle.edit_machine.proofs.Decided.{refused_first, passed_first}
use Rattle.edit_machine.proofs.nodes.change_right.Goals as goal

pub returns-in-Some : goal.returns-in-Some
returns-in-Some c =
    let state = c.args.state.now in
    let node = c.args.node.now in
    let changed = patched_node node c.args.patch.now c.args.now in
    let causes = change_refusals state.rows c.args.nid c.args.patch.now c.args.now node in
    let commit = commit_of c.args.pass (set (cell.Node c.args.nid) (row.Node changed) ∷ []) in
    refused_first causes (accepted state commit (done.NodeChanged c.args.nid changed.vid)) c.in-Some.refusal (sym c.in-Some.is ∙ c.in_ok-refusal.ensures.cause c.args.now)

pub returns : goal.returns
returns c =
    let state = c.args.state.now in
    let node = c.args.node.now in
    let changed = patched_node node c.args.patch.now c.args.now in
    let causes = change_refusals state.rows c.args.nid c.args.patch.now c.args.now node in
    let commit = commit_of c.args.pass (set (cell.Node c.args.nid) (row.Node changed) ∷ []) in
    let none : None ≡ first_cause causes = sym c.in_default.is ∙ c.in_ok-refusal.ensures.cause c.args.now in
    IfOk-weaker c.accepted.result _ _
    (λ verdict told. told ∙ ap (λ made. accepted state made (done.NodeChanged c.args.nid c.in_ok-changed.changed.vid)) c.in_ok-commit.ensures ∙ ap (λ (n : Node). accepted state (commit_of c.args.pass (set (cell.Node c.args.nid) (row.Node n) ∷ [])) (done.NodeChanged c.args.nid n.vid)) c.in_ok-changed.ensures ∙ passed_first causes (accepted state commit (done.NodeChanged c.args.nid changed.vid)) none)
    c.accepted.ensures
