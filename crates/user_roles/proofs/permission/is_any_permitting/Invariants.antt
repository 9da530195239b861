use Rattle.std.proofs.Common.{◌≡◌, take, map, false}
use Rattle.std.specs.List.{list_any}
use Rattle.user_roles.specs.Permitted.{permits}
use Rattle.user_roles.proofs.permission.is_any_permitting.Given as goal

abbrev pub invariant-roles : goal.invariant-roles
invariant-roles l = list_any (permits l.permission) (map (λ role. role.now) (take l.role-index l.roles)) ≡ false
