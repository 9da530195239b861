use Rattle.std.proofs.Common.{◌∙◌}
use Rattle.edit_machine.proofs.Replies.{longer_set}
use Rattle.edit_machine.proofs.comments.is_new_deep.Goals as goal

pub returns : goal.returns
returns c = c.is_longer_reply_with.ensures ∙ longer_set c.args.state.now.rows c.args.next c.args.comment.now 9 c.args.next
