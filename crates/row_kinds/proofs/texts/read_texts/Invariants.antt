use Rattle.std.proofs.Common.{◌≡◌, ◌++◌}
use Rattle.serde_json.specs.View.{members_view}
use Rattle.row_kinds.specs.Look.{texts_in}
use Rattle.row_kinds.proofs.texts.read_texts.Given as goal

abbrev pub invariant-members : goal.invariant-members
invariant-members l = l.read.items ++ texts_in (members_view l.name-iterator) ≡ texts_in (members_view l.members.entries)
