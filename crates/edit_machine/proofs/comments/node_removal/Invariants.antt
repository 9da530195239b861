use Rattle.std.proofs.Common.{◌≡◌, ◌++◌}
use Rattle.site_commands.specs.Nodes.{remove_writes}
use Rattle.edit_machine.proofs.Replies.{going}
use Rattle.edit_machine.proofs.comments.node_removal.Given as goal

abbrev pub invariant-comments : goal.invariant-comments
invariant-comments l = l.writes.items ++ going l.key-iterator ≡ remove_writes l.state.rows l.nid
