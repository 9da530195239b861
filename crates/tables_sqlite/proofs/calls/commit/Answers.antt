use Rattle.std.proofs.Common.{◌≡◌, refl, subst}
use Rattle.sqlite.specs.Held.{state}
use Rattle.store_six.specs.Calls.{Commits}
use Rattle.table_laws.proofs.Calls.{untried, committed, not_committed, is_inside}
use Rattle.table_laws.specs.Moments.{Keeps}
use Rattle.table_laws.specs.Stored.{tables_of}
use Rattle.tables_sqlite.proofs.calls.commit.Goals as goal

pub returns-then-is_autocommit-clause-serves : goal.returns-then-is_autocommit-clause-serves
returns-then-is_autocommit-clause-serves g c = c.requires

pub returns-then-is_autocommit-clause-runs : goal.returns-then-is_autocommit-clause-runs
returns-then-is_autocommit-clause-runs g c =
    untried c.args.faults.now c.counted.new.faults (λ t. t ≡ tables_of (state g.S.Store c.args.conn.now).now.trees) Commits (state g.S.Store c.args.conn.now) c.counted.result c.counted.ensures.counts c.counted.ensures.cause

pub commit-requires-clause-inside : goal.commit-requires-clause-inside
commit-requires-clause-inside g c = is_inside _ _ c.is_autocommit.ensures.value c.if-is_autocommit.false

pub commit-requires-clause-serves : goal.commit-requires-clause-serves
commit-requires-clause-serves g c = c.requires

pub returns-in-Ok-clause-serves : goal.returns-in-Ok-clause-serves
returns-in-Ok-clause-serves g c = c.commit.ensures.serves

pub returns-in-Ok-clause-runs : goal.returns-in-Ok-clause-runs
returns-in-Ok-clause-runs g c =
    committed c.args.faults.now c.args.faults.now (state g.S.Store c.args.conn.now) (state g.S.Store c.commit.new.conn) c.in-Ok.field-0 tt refl (subst (Keeps (state g.S.Store c.args.conn.now) (state g.S.Store c.commit.new.conn)) c.in-Ok.is c.commit.ensures)

pub returns-in-Err-clause-serves : goal.returns-in-Err-clause-serves
returns-in-Err-clause-serves g c = c.commit.ensures.serves

pub returns-in-Err-clause-runs : goal.returns-in-Err-clause-runs
returns-in-Err-clause-runs g c =
    not_committed c.args.faults.now c.counted-in-Err.new.faults (state g.S.Store c.args.conn.now) (state g.S.Store c.commit.new.conn) c.in-Err.error c.counted-in-Err.result c.counted-in-Err.ensures.counts c.counted-in-Err.ensures.cause (subst (Keeps (state g.S.Store c.args.conn.now) (state g.S.Store c.commit.new.conn)) c.in-Err.is c.commit.ensures)
