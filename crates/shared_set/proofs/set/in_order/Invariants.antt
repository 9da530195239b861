use Rattle.std.proofs.Common.{◌≡◌, [], take}
use Rattle.std.specs.Prelude.{fold}
use Rattle.std.specs.BTreeSet.{insert_key}
use Rattle.shared_set.proofs.set.in_order.Given as goal

abbrev pub invariant-keys : goal.invariant-keys
invariant-keys g l = l.set.keys ≡ fold (insert_key g.K.Ord.cmp) [] (take l.key-index l.keys)
