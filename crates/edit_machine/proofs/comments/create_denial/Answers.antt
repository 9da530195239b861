use Rattle.std.proofs.Common.{◌≡◌, sym, ap, ◌∙◌, None}
use Rattle.std.proofs.lemmas.Result.{IfOk-weaker}
use Rattle.cacheability.specs.declared.op.Op.TheVariants as op
use Rattle.site_access.specs.Access.{access_to_node}
use Rattle.site_access.specs.Comments.{post_comments}
use Rattle.site_commands.specs.Causes.{unless_allowed, needs}
use Rattle.edit_machine.proofs.Decided.{last_decides}
use Rattle.edit_machine.proofs.comments.create_denial.Goals as goal

pub returns : goal.returns
returns c =
    let rows = c.args.state.now.rows in
    let viewer = c.args.account.now.viewer in
    let cause = unless_allowed (access_to_node rows viewer op.View c.args.nid) in
    let none : cause ≡ None = sym c.in_ok-refusal.ensures ∙ c.in_default.is in
    IfOk-weaker c.needs.result _ _
    (λ last denies. denies rows c.requires.account ∙ ap (needs rows viewer) c.post_comments.ensures ∙ last_decides cause (needs rows viewer post_comments) none)
    c.needs.ensures
