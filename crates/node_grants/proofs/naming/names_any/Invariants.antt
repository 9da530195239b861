use Rattle.std.proofs.Common.{◌≡◌, take, false}
use Rattle.std.specs.List.{list_any}
use Rattle.content_rows.specs.Permission.{names}
use Rattle.node_grants.proofs.naming.names_any.Given as goal

abbrev pub invariant-grants : goal.invariant-grants
invariant-grants l = list_any (names l.row) (take l.grant-index l.grants) ≡ false
