use Rattle.std.proofs.Common.{◌≡◌, ◌++◌}
use Rattle.std.specs.Prelude.{filter}
use Rattle.serde_json.specs.View.{members_view}
use Rattle.content_rows.specs.LiteralName.{is_name}
use Rattle.json_keys.specs.Order.{names_of}
use Rattle.edit_bodies.proofs.keys.machine_names.Given as goal

abbrev pub invariant-members : goal.invariant-members
invariant-members l =
    l.names.items ++ filter is_name (names_of (members_view l.name-iterator))
    ≡ filter is_name (names_of (members_view l.members.entries))
