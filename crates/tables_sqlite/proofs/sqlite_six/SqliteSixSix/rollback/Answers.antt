use Rattle.std.proofs.Common.{refl, arith}
use Rattle.sqlite.specs.Held.{state}
use Rattle.store_six.specs.Calls.{Nothing}
use Rattle.table_laws.proofs.Calls.{counted}
use Rattle.tables_sqlite.proofs.sqlite_six.SqliteSixSix.rollback.Goals as goal

pub rollback-requires : goal.rollback-requires
rollback-requires g c = c.self.invariant

pub invariant_of-self : goal.invariant_of-self
invariant_of-self g c = c.rollback.ensures.serves

pub returns-clause-passes : goal.returns-clause-passes
returns-clause-passes g c =
    rw (← c.self.view_is) (counted c.self.inside.faults c.self.inside.faults (state g.S.Store c.self.inside.conn) (state g.S.Store c.rollback.new.conn) Nothing (omega arith) c.rollback.ensures.passes)

pub returns-clause-kept : goal.returns-clause-kept
returns-clause-kept g c = rw (← c.self.view_is) c.rollback.ensures.kept

pub returns-clause-steady : goal.returns-clause-steady
returns-clause-steady g c = rw (← c.self.view_is) refl

pub returns-clause-outside : goal.returns-clause-outside
returns-clause-outside g c = c.rollback.ensures.outside
