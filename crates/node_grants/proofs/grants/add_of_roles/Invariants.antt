use Rattle.std.proofs.Common.{◌≡◌, take, map}
use Rattle.std.specs.List.{fold, flat_map}
use Rattle.std.specs.BTreeSet.{insert_key}
use Rattle.content_rows.specs.GrantOrder.{grant_cmp}
use Rattle.node_grants.proofs.grants.add_of_roles.Given as goal

abbrev pub invariant-roles : goal.invariant-roles
invariant-roles l =
    l.set ≡ fold (insert_key grant_cmp) l.initial.set (flat_map (λ role. role.grants) (map (λ role. role.now) (take l.role-index l.roles)))
