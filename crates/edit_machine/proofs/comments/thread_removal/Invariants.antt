use Rattle.std.proofs.Common.{◌≡◌, ◌++◌}
use Rattle.std.specs.Prelude.{filter}
use Rattle.content_state.specs.Chain.{is_within, reply_in}
use Rattle.site_commands.specs.Comments.{remove_writes}
use Rattle.edit_machine.proofs.Replies.{going}
use Rattle.edit_machine.proofs.comments.thread_removal.Given as goal

abbrev pub invariant-comments : goal.invariant-comments
invariant-comments l =
    l.writes.items ++ going (filter (λ k. is_within (reply_in l.state.rows) 9 l.cid k.id) l.key-iterator)
    ≡ remove_writes l.state.rows l.cid l.comment
