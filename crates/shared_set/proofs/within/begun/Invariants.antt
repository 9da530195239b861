use Rattle.std.proofs.Common.{◌≡◌, ◌++◌, length}
use Rattle.shared_set.specs.Keys.{flat}
use Rattle.shared_set.proofs.within.begun.Given as goal

abbrev pub invariant-chunks : goal.invariant-chunks
invariant-chunks g l = l.keys ++ flat l.rest ≡ l.initial.keys ++ flat l.initial.rest

abbrev pub decreases-chunks : goal.decreases-chunks
decreases-chunks g l = length l.rest
