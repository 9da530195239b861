use Rattle.std.proofs.Common.{drop}
use Rattle.keeper_sqlite.proofs.Turns.{Leads}
use Rattle.keeper_sqlite.proofs.keeping.make_writes.Given as goal
use Rattle.keeper_sqlite.specs.Batches.{MakesWrite, Wrote}
use Rattle.store_six.specs.At.{at}

-- what was written leads to all of them, once the rest is written
abbrev pub invariant-writes : goal.invariant-writes
invariant-writes g l = Wrote (Leads MakesWrite l.writes (drop l.write-index l.writes)) (at g.X.Six l.initial.six) (at g.X.Six l.six)
