use Rattle.std.proofs.Common.{refl, subst}
use Rattle.sqlite.specs.Held.{state}
use Rattle.store_six.specs.Calls.{Changes, Nothing}
use Rattle.store_six.specs.Tables.{IsSet, OnCells}
use Rattle.table_laws.proofs.Calls.{untried, altered, not_altered, is_inside}
use Rattle.table_laws.specs.Moments.{Alters}
use Rattle.tables_sqlite.proofs.calls.set_row.Goals as goal

pub returns-then-is_autocommit-clause-serves : goal.returns-then-is_autocommit-clause-serves
returns-then-is_autocommit-clause-serves g c = c.requires

pub returns-then-is_autocommit-clause-runs : goal.returns-then-is_autocommit-clause-runs
returns-then-is_autocommit-clause-runs g c =
    untried c.args.faults.now c.counted.new.faults Nothing (Changes (OnCells (IsSet c.args.cell.now c.args.body.now))) (state g.S.Store c.args.conn.now) c.counted.result c.counted.ensures.counts c.counted.ensures.cause

pub set_row-requires-clause-inside : goal.set_row-requires-clause-inside
set_row-requires-clause-inside g c = is_inside _ _ c.is_autocommit.ensures.value c.if-is_autocommit.false

pub set_row-requires-clause-serves : goal.set_row-requires-clause-serves
set_row-requires-clause-serves g c = c.requires

pub returns-in-Ok-clause-serves : goal.returns-in-Ok-clause-serves
returns-in-Ok-clause-serves g c = c.set_row.ensures.serves

pub returns-in-Ok-clause-runs : goal.returns-in-Ok-clause-runs
returns-in-Ok-clause-runs g c =
    altered c.args.faults.now c.args.faults.now (OnCells (IsSet c.args.cell.now c.args.body.now)) (state g.S.Store c.args.conn.now) (state g.S.Store c.set_row.new.conn) c.in-Ok.field-0 tt refl
    (subst (Alters (OnCells (IsSet c.args.cell.now c.args.body.now)) (state g.S.Store c.args.conn.now) (state g.S.Store c.set_row.new.conn)) c.in-Ok.is c.set_row.ensures)

pub returns-in-Err-clause-serves : goal.returns-in-Err-clause-serves
returns-in-Err-clause-serves g c = c.set_row.ensures.serves

pub returns-in-Err-clause-runs : goal.returns-in-Err-clause-runs
returns-in-Err-clause-runs g c =
    not_altered c.args.faults.now c.counted-in-Err.new.faults (OnCells (IsSet c.args.cell.now c.args.body.now)) (state g.S.Store c.args.conn.now) (state g.S.Store c.set_row.new.conn) c.in-Err.error c.counted-in-Err.result c.counted-in-Err.ensures.counts c.counted-in-Err.ensures.cause
    (subst (Alters (OnCells (IsSet c.args.cell.now c.args.body.now)) (state g.S.Store c.args.conn.now) (state g.S.Store c.set_row.new.conn)) c.in-Err.is c.set_row.ensures)
