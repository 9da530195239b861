use Rattle.std.proofs.Common.{◌∙◌, ap, sym, arith}
use Rattle.std.proofs.lemmas.List.Folds.{list_any_at}
use Rattle.user_roles.specs.Permitted.{permits}
use Rattle.user_roles.proofs.Permitting.{list_any-map}
use Rattle.user_roles.proofs.permission.is_any_permitting.Goals as goal

pub returns-then-permits : goal.returns-then-permits
returns-then-permits c =
    let roles = c.args.roles.now in
    let permission = c.args.permission.now in
    let permitted = ap (λ role. permits permission role.now) (sym c.role-item.is) ∙ sym c.permits.ensures ∙ c.if-permits.true in
    sym (list_any_at (λ role. permits permission role.now) roles c.roles.role-index c.role-item.result (omega arith) permitted)
    ∙ list_any-map (permits permission) (λ role. role.now) roles
