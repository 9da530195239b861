use Rattle.std.proofs.Common.{◌≡◌, ◌+◌, [], ◌∷◌, sym, ap, ◌∙◌, Some, None}
use Rattle.std.proofs.lemmas.Result.{IfOk-weaker}
use Rattle.content_rows.specs.declared.cell.Cell.TheVariants as cell
use Rattle.content_rows.specs.declared.row.Row.TheVariants as row
use Rattle.content_rows.specs.declared.row.Node.{Node}
use Rattle.indexed_rows.specs.Rows.{seq_of}
use Rattle.site_commands.specs.Causes.{of_target, set, commit_of, accepted}
use Rattle.site_commands.specs.Nodes.{create_refusals, create_writes, create_right}
use Rattle.site_commands.specs.declared.answer.Done.TheVariants as done
use Rattle.edit_machine.specs.First.{first_cause}
use Rattle.edit_machine.proofs.Decided.{refused_first, passed_first}
use Rattle.edit_machine.proofs.nodes.create_right.Goals as goal

pub returns-in-Some-2 : goal.returns-in-Some-2
returns-in-Some-2 c =
    let state = c.args.state.now in
    let new = c.args.new.now in
    let seq = c.in-Some.seq.now in
    let there : Some seq ≡ seq_of state.rows = c.in-Some.ensures in
    let causes = create_refusals state.rows c.args.node_type.now new seq in
    let commit = commit_of c.args.pass (create_writes new c.args.name.now c.args.viewer.now c.args.now seq) in
    refused_first causes (accepted state commit (done.NodeCreated seq.node)) c.in-Some-2.refusal (sym c.in-Some-2.is ∙ c.in_ok-refusal.ensures.cause)
    ∙ ap (λ found. of_target found (create_right state c.args.viewer.now c.args.name.now c.args.node_type.now c.args.now c.args.pass new)) there

pub returns : goal.returns
returns c =
    let state = c.args.state.now in
    let new = c.args.new.now in
    let seq = c.in-Some.seq.now in
    let there : Some seq ≡ seq_of state.rows = c.in-Some.ensures in
    let causes = create_refusals state.rows c.args.node_type.now new seq in
    let commit = commit_of c.args.pass (create_writes new c.args.name.now c.args.viewer.now c.args.now seq) in
    let none : None ≡ first_cause causes = sym c.in_default-2.is ∙ c.in_ok-refusal.ensures.cause in
    let made : c.in_ok-commit.commit ≡ commit = c.in_ok-commit.ensures ∙ ap (λ (node : Node). commit_of c.args.pass (set cell.Seq (row.Seq (record seq { node = seq.node + 1 })) ∷ set (cell.Node seq.node) (row.Node node) ∷ [])) c.in_ok-node.ensures in
    IfOk-weaker c.accepted.result _ _
    (λ verdict told. told ∙ ap (λ made. accepted state made (done.NodeCreated seq.node)) made ∙ passed_first causes (accepted state commit (done.NodeCreated seq.node)) none ∙ ap (λ found. of_target found (create_right state c.args.viewer.now c.args.name.now c.args.node_type.now c.args.now c.args.pass new)) there)
    c.accepted.ensures
