use Rattle.std.proofs.Common.{◌≡◌, take, map}
use Rattle.std.specs.List.{flat_map}
use Rattle.content_rows.specs.Permission.{text_set}
use Rattle.user_roles.proofs.permission.texts_put_in_order.Given as goal

abbrev pub invariant-roles : goal.invariant-roles
invariant-roles l = l.texts.keys ≡ text_set (flat_map (λ role. role.permissions) (map (λ role. role.now) (take l.role-index l.roles)))
