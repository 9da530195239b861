use Rattle.sqlite.specs.Held.{state}
use Rattle.table_laws.proofs.Calls.{is_inside, is_outside}
use Rattle.table_laws.proofs.Turns.{drops_none}
use Rattle.tables_sqlite.proofs.calls.rollback.Goals as goal

pub rollback-requires-clause-inside : goal.rollback-requires-clause-inside
rollback-requires-clause-inside g c = is_inside _ _ c.is_autocommit.ensures.value c.if-not-is_autocommit.true

pub rollback-requires-clause-serves : goal.rollback-requires-clause-serves
rollback-requires-clause-serves g c = c.requires

pub returns-then-not-is_autocommit : goal.returns-then-not-is_autocommit
returns-then-not-is_autocommit g c = c.rollback.ensures

pub returns-else-not-is_autocommit : goal.returns-else-not-is_autocommit
returns-else-not-is_autocommit g c = drops_none (state g.S.Store c.args.conn.now) (is_outside _ _ c.is_autocommit.ensures.value c.if-not-is_autocommit.false) c.requires
