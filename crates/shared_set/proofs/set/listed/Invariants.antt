use Rattle.std.proofs.Common.{◌≡◌, ◌++◌}
use Rattle.shared_set.proofs.set.listed.Given as goal

abbrev pub invariant-keys : goal.invariant-keys
invariant-keys g l = l.keys.items ++ l.key-iterator ≡ l.set.keys
