use Rattle.std.proofs.Common.{drop}
use Rattle.keeper_sqlite.proofs.Turns.{Leads}
use Rattle.keeper_sqlite.proofs.keeping.set_counts.Given as goal
use Rattle.keeper_sqlite.specs.Batches.{SetsCount, Wrote}
use Rattle.store_six.specs.At.{at}

-- what was written leads to all of them, once the rest is written
abbrev pub invariant-counts : goal.invariant-counts
invariant-counts g l = Wrote (Leads SetsCount l.counts (drop l.entry-index l.counts)) (at g.X.Six l.initial.six) (at g.X.Six l.six)
