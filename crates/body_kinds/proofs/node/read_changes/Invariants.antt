use Rattle.std.proofs.Common.{◌≡◌, ◌++◌}
use Rattle.serde_json.specs.View.{members_view}
use Rattle.body_kinds.specs.Bodies.{changes_in}
use Rattle.body_kinds.proofs.node.read_changes.Given as goal

abbrev pub invariant-members : goal.invariant-members
invariant-members l = l.read.items ++ changes_in (members_view l.name-iterator) ≡ changes_in (members_view l.members.entries)
