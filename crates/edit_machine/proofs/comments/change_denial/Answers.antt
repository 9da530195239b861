use Rattle.std.proofs.Common.{◌≡◌, sym, ap, ◌∙◌, None}
use Rattle.std.proofs.lemmas.Result.{IfOk-weaker}
use Rattle.cacheability.specs.declared.op.Op.TheVariants as op
use Rattle.site_access.specs.Comments.{administer_comments, access_to_comment}
use Rattle.site_commands.specs.Causes.{unless_allowed, key_needs}
use Rattle.edit_machine.proofs.Decided.{last_decides}
use Rattle.edit_machine.proofs.comments.change_denial.Goals as goal

pub returns : goal.returns
returns c =
    let rows = c.args.state.now.rows in
    let viewer = c.args.account.now.viewer in
    let cause = unless_allowed (access_to_comment rows viewer op.Update c.args.cid) in
    let none : cause ≡ None = sym c.in_ok-refusal.ensures ∙ c.in_default.is in
    IfOk-weaker c.key_needs.result _ _
    (λ last denies. denies rows c.requires.account ∙ ap (key_needs rows viewer c.args.status) c.administer_comments.ensures ∙ last_decides cause (key_needs rows viewer c.args.status administer_comments) none)
    c.key_needs.ensures
