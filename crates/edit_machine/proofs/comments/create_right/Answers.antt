use Rattle.std.proofs.Common.{ap, ◌∙◌}
use Rattle.std.proofs.lemmas.Result.{IfOk-weaker}
use Rattle.content_rows.specs.declared.row.Comment.{Comment}
use Rattle.site_commands.specs.Comments.{is_approved, new_comment, create_next}
use Rattle.edit_machine.proofs.comments.create_right.Goals as goal

pub returns : goal.returns
returns c =
    let state = c.args.state.now in
    let viewer = c.args.account.now.viewer in
    let new = c.args.new.now in
    let right = new_comment new c.args.nid viewer.uid (is_approved state.rows viewer) c.args.now in
    let made = c.in_ok-comment.ensures ∙ ap (λ b. new_comment new c.args.nid viewer.uid b c.args.now) (c.is_approved-approved.ensures state.rows c.requires) in
    IfOk-weaker c.create_next.result _ _
    (λ verdict told. told ∙ ap (λ (m : Comment). create_next state c.args.pass c.args.nid m c.next_comment.result) made ∙ ap (λ n. create_next state c.args.pass c.args.nid right n) c.next_comment.ensures)
    c.create_next.ensures
