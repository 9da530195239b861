use Rattle.std.proofs.Common.{ap, ◌∙◌}
use Rattle.site_access.specs.Comments.{access_to_comment}
use Rattle.site_access.proofs.WholeResults.{answer_is}
use Rattle.site_commands.specs.Causes.{unless_allowed}
use Rattle.edit_machine.proofs.causes.comment_denial.Goals as goal

pub returns : goal.returns
returns c =
    let x = access_to_comment c.args.state.now.rows c.args.account.now.viewer c.args.op c.args.cid in
    let access = c.in_ok-access.access in
    c.denial.ensures ∙ ap unless_allowed (answer_is x access.cacheability access c.in_ok-access.ensures.answer)
