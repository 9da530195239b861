use Rattle.std.proofs.Common.{◌≡◌, take}
use Rattle.std.specs.List.{fold}
use Rattle.std.specs.BTreeSet.{insert_key}
use Rattle.content_rows.specs.GrantOrder.{grant_cmp}
use Rattle.node_grants.proofs.grants.add_all.Given as goal

abbrev pub invariant-grants : goal.invariant-grants
invariant-grants l = l.set ≡ fold (insert_key grant_cmp) l.initial.set (take l.grant-index l.grants)
