use Rattle.std.proofs.Common.{refl, subst}
use Rattle.sqlite.specs.Held.{state}
use Rattle.store_six.specs.Calls.{Changes, Nothing}
use Rattle.store_six.specs.Tables.{IsRemoved, OnCells}
use Rattle.table_laws.proofs.Calls.{untried, altered, not_altered, is_inside}
use Rattle.table_laws.specs.Moments.{Alters}
use Rattle.tables_sqlite.proofs.calls.remove_row.Goals as goal

pub returns-then-is_autocommit-clause-serves : goal.returns-then-is_autocommit-clause-serves
returns-then-is_autocommit-clause-serves g c = c.requires

pub returns-then-is_autocommit-clause-runs : goal.returns-then-is_autocommit-clause-runs
returns-then-is_autocommit-clause-runs g c =
    untried c.args.faults.now c.counted.new.faults Nothing (Changes (OnCells (IsRemoved c.args.cell.now))) (state g.S.Store c.args.conn.now) c.counted.result c.counted.ensures.counts c.counted.ensures.cause

pub remove_row-requires-clause-inside : goal.remove_row-requires-clause-inside
remove_row-requires-clause-inside g c = is_inside _ _ c.is_autocommit.ensures.value c.if-is_autocommit.false

pub remove_row-requires-clause-serves : goal.remove_row-requires-clause-serves
remove_row-requires-clause-serves g c = c.requires

pub returns-in-Ok-clause-serves : goal.returns-in-Ok-clause-serves
returns-in-Ok-clause-serves g c = c.remove_row.ensures.serves

pub returns-in-Ok-clause-runs : goal.returns-in-Ok-clause-runs
returns-in-Ok-clause-runs g c =
    altered c.args.faults.now c.args.faults.now (OnCells (IsRemoved c.args.cell.now)) (state g.S.Store c.args.conn.now) (state g.S.Store c.remove_row.new.conn) c.in-Ok.field-0 tt refl
    (subst (Alters (OnCells (IsRemoved c.args.cell.now)) (state g.S.Store c.args.conn.now) (state g.S.Store c.remove_row.new.conn)) c.in-Ok.is c.remove_row.ensures)

pub returns-in-Err-clause-serves : goal.returns-in-Err-clause-serves
returns-in-Err-clause-serves g c = c.remove_row.ensures.serves

pub returns-in-Err-clause-runs : goal.returns-in-Err-clause-runs
returns-in-Err-clause-runs g c =
    not_altered c.args.faults.now c.counted-in-Err.new.faults (OnCells (IsRemoved c.args.cell.now)) (state g.S.Store c.args.conn.now) (state g.S.Store c.remove_row.new.conn) c.in-Err.error c.counted-in-Err.result c.counted-in-Err.ensures.counts c.counted-in-Err.ensures.cause
    (subst (Alters (OnCells (IsRemoved c.args.cell.now)) (state g.S.Store c.args.conn.now) (state g.S.Store c.remove_row.new.conn)) c.in-Err.is c.remove_row.ensures)
