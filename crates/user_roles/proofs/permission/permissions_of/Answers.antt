use Rattle.std.proofs.Common.{◌≡◌, ◌∙◌, ap, map, arith}
use Rattle.std.proofs.lemmas.Grind.{common_steps}
use Rattle.content_rows.specs.declared.permission.Permissions.{Permissions}
use Rattle.content_rows.specs.declared.permission.Permissions.TheVariants as permissions
use Rattle.content_rows.specs.Permission.{permissions_of as permissions_by}
use Rattle.content_rows.specs.Permission.{has as is_held}
use Rattle.user_roles.proofs.Permitting.{held_where_permitted}
use Rattle.user_roles.proofs.permission.permissions_of.Goals as goal

pub returns-then-uid-eq1-clause-held : goal.returns-then-uid-eq1-clause-held
returns-then-uid-eq1-clause-held c =
    let roles = map (λ role. role.now) c.args.roles.now in
    let same : permissions.All ≡ permissions_by c.args.uid roles = grind (arith, common_steps) in
    λ permission. ap (λ (p : Permissions). is_held p permission) same ∙ held_where_permitted c.args.uid roles permission

pub returns-clause-held : goal.returns-clause-held
returns-clause-held c =
    let roles = map (λ role. role.now) c.args.roles.now in
    let same : permissions.These c.in_ok-texts_of.field-0 ≡ permissions_by c.args.uid roles = grind (arith, common_steps) in
    λ permission. ap (λ (p : Permissions). is_held p permission) same ∙ held_where_permitted c.args.uid roles permission
