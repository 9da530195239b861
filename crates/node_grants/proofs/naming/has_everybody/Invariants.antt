use Rattle.std.proofs.Common.{◌≡◌, take, false}
use Rattle.std.specs.List.{list_any}
use Rattle.content_rows.specs.Permission.{default_record, names}
use Rattle.node_grants.proofs.naming.has_everybody.Given as goal

abbrev pub invariant-grants : goal.invariant-grants
invariant-grants l = list_any (names default_record) (take l.grant-index l.grants) ≡ false
