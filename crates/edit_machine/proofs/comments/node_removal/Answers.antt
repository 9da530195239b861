use Rattle.std.proofs.Common.{◌∙◌}
use Rattle.indexed_rows.specs.Rows.{comments_on}
use Rattle.edit_machine.proofs.Replies.{node_goes}
use Rattle.edit_machine.proofs.comments.node_removal.Goals as goal

pub comments-init : goal.comments-init
comments-init c =
    node_goes c.args.nid (comments_on c.args.state.now.rows c.args.nid) c.removed.result c.new-writes.result.items c.push.new.self.items c.into_iter-key-iterator.result
    c.new-writes.ensures.items c.in_ok-push.ensures.items c.removed.ensures (c.into_iter-key-iterator.ensures.into_iter_gives ∙ c.comment_keys-key-items.ensures)
