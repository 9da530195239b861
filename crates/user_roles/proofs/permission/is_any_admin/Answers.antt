use Rattle.std.proofs.Common.{◌∙◌, ap, sym, arith}
use Rattle.std.proofs.lemmas.List.Folds.{list_any_at}
use Rattle.user_roles.proofs.Permitting.{list_any-map}
use Rattle.user_roles.proofs.permission.is_any_admin.Goals as goal

pub returns-then-role : goal.returns-then-role
returns-then-role c =
    let roles = c.args.roles.now in
    let admin = ap (λ role. role.now.admin) (sym c.role-item.is) ∙ c.if-role.true in
    sym (list_any_at (λ role. role.now.admin) roles c.roles.role-index c.role-item.result (omega arith) admin)
    ∙ list_any-map (λ role. role.admin) (λ role. role.now) roles
