use Rattle.std.proofs.Common.{refl, subst}
use Rattle.sqlite.specs.Held.{state}
use Rattle.table_laws.proofs.Calls.{started, not_started}
use Rattle.table_laws.specs.Moments.{Starts}
use Rattle.tables_sqlite.proofs.calls.begin.Goals as goal

pub begin-requires : goal.begin-requires
begin-requires g c = record { serves = c.requires }

pub returns-in-Ok-clause-serves : goal.returns-in-Ok-clause-serves
returns-in-Ok-clause-serves g c = c.begin.ensures.serves

pub returns-in-Ok-clause-runs : goal.returns-in-Ok-clause-runs
returns-in-Ok-clause-runs g c =
    started c.args.faults.now c.args.faults.now (state g.S.Store c.args.conn.now) (state g.S.Store c.begin.new.conn) c.in-Ok.field-0 tt refl (subst (Starts (state g.S.Store c.args.conn.now) (state g.S.Store c.begin.new.conn)) c.in-Ok.is c.begin.ensures)

pub returns-in-Err-clause-serves : goal.returns-in-Err-clause-serves
returns-in-Err-clause-serves g c = c.begin.ensures.serves

pub returns-in-Err-clause-runs : goal.returns-in-Err-clause-runs
returns-in-Err-clause-runs g c =
    not_started c.args.faults.now c.counted.new.faults (state g.S.Store c.args.conn.now) (state g.S.Store c.begin.new.conn) c.in-Err.error c.counted.result c.counted.ensures.counts c.counted.ensures.cause
    (subst (Starts (state g.S.Store c.args.conn.now) (state g.S.Store c.begin.new.conn)) c.in-Err.is c.begin.ensures)
