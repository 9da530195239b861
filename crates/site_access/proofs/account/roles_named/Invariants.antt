use Rattle.std.proofs.Common.{◌≡◌, take, map}
use Rattle.std.specs.List.{filter_map}
use Rattle.indexed_rows.specs.Rows.{role_of}
use Rattle.site_access.proofs.account.roles_named.Given as goal

abbrev pub invariant-names : goal.invariant-names
invariant-names l = map (λ role. role.now) l.roles.items ≡ filter_map (role_of l.state.rows) (take l.name-index l.names)
