use Rattle.std.proofs.Common.{List, ◌++◌, ◌∙◌, ap}
use Rattle.std.specs.Prelude.{filter}
use Rattle.content_state.specs.Chain.{is_within, reply_in}
use Rattle.indexed_rows.specs.Rows.{comments_on}
use Rattle.indexed_rows.specs.Write.{Write}
use Rattle.edit_machine.proofs.Replies.{going, some_go}
use Rattle.edit_machine.proofs.comments.thread_removal.Goals as goal

pub comments-init : goal.comments-init
comments-init c =
    let rows = c.args.state.now.rows in
    let goes = is_within (reply_in rows) 9 c.args.cid in
    ap (λ (ws : List Write). ws ++ going (filter (λ k. goes k.id) c.into_iter-key-iterator.result)) c.new-writes.ensures.items
    ∙ ap (λ keys. going (filter (λ k. goes k.id) keys)) (c.into_iter-key-iterator.ensures.into_iter_gives ∙ c.comment_keys-key-items.ensures)
    ∙ some_go goes c.args.comment.now.node (comments_on rows c.args.comment.now.node)
