use Rattle.std.proofs.Common.{List, map, option_map, refl, sym, ap, subst, ◌∙◌, arith}
use Rattle.sqlite.specs.Held.{state}
use Rattle.sqlite.specs.Order.{Row, column}
use Rattle.store_six.specs.Tables.{AreBeside}
use Rattle.table_laws.specs.Stored.{text_of, tables_of}
use Rattle.table_laws.proofs.Calls.{unread, read, not_read, is_outside}
use Rattle.table_laws.specs.Moments.{Finds}
use Rattle.tables_sqlite.proofs.calls.one_row.Goals as goal

pub returns-then-not-is_autocommit-clause-serves : goal.returns-then-not-is_autocommit-clause-serves
returns-then-not-is_autocommit-clause-serves g c = c.requires

pub returns-then-not-is_autocommit-clause-reads : goal.returns-then-not-is_autocommit-clause-reads
returns-then-not-is_autocommit-clause-reads g c =
    unread c.args.faults.now c.counted.new.faults (λ found. AreBeside c.args.cell.now (tables_of (state g.S.Store c.args.conn.now).committed.trees).cells (map (option_map (λ body. body.items)) found.items)) (state g.S.Store c.args.conn.now) c.counted.result c.counted.ensures.counts c.counted.ensures.cause

pub one_row-requires-clause-outside : goal.one_row-requires-clause-outside
one_row-requires-clause-outside g c = is_outside _ _ c.is_autocommit.ensures.value c.if-not-is_autocommit.false

pub one_row-requires-clause-serves : goal.one_row-requires-clause-serves
one_row-requires-clause-serves g c = c.requires

pub returns-in-Ok-bodies-clause-serves : goal.returns-in-Ok-bodies-clause-serves
returns-in-Ok-bodies-clause-serves g c = c.one_row.ensures.serves

pub returns-in-Ok-bodies-clause-reads : goal.returns-in-Ok-bodies-clause-reads
returns-in-Ok-bodies-clause-reads g c =
    let Are : List Row → Type 0 = (λ shown. AreBeside c.args.cell.now (tables_of (state g.S.Store c.args.conn.now).committed.trees).cells (map (λ x. text_of (column x 0)) shown)) in
    read c.args.faults.now c.args.faults.now (λ found. AreBeside c.args.cell.now (tables_of (state g.S.Store c.args.conn.now).committed.trees).cells (map (option_map (λ body. body.items)) found.items)) (state g.S.Store c.args.conn.now) (state g.S.Store c.one_row.new.conn) Are c.in-Ok.rows c.in-Ok-bodies.lines refl
    (λ all. subst (λ l. AreBeside c.args.cell.now (tables_of (state g.S.Store c.args.conn.now).committed.trees).cells l) (sym (c.in-Ok-bodies.ensures ∙ ap (map (λ x. text_of (column x 0))) c.as_slice.ensures.value)) all)
    (subst (Finds Are (state g.S.Store c.args.conn.now) (state g.S.Store c.one_row.new.conn)) c.in-Ok.is c.one_row.ensures)

pub returns-in-Ok-clause-serves : goal.returns-in-Ok-clause-serves
returns-in-Ok-clause-serves g c = c.one_row.ensures.serves

pub returns-in-Ok-clause-reads : goal.returns-in-Ok-clause-reads
returns-in-Ok-clause-reads g c =
    not_read c.args.faults.now c.args.faults.now (λ found. AreBeside c.args.cell.now (tables_of (state g.S.Store c.args.conn.now).committed.trees).cells (map (option_map (λ body. body.items)) found.items)) (state g.S.Store c.args.conn.now) (state g.S.Store c.one_row.new.conn) (λ shown. AreBeside c.args.cell.now (tables_of (state g.S.Store c.args.conn.now).committed.trees).cells (map (λ x. text_of (column x 0)) shown)) c.one_row.result _ (omega arith) refl c.one_row.ensures

pub returns-clause-serves : goal.returns-clause-serves
returns-clause-serves g c = c.one_row.ensures.serves

pub returns-clause-reads : goal.returns-clause-reads
returns-clause-reads g c =
    not_read c.args.faults.now c.counted-in-Err.new.faults (λ found. AreBeside c.args.cell.now (tables_of (state g.S.Store c.args.conn.now).committed.trees).cells (map (option_map (λ body. body.items)) found.items)) (state g.S.Store c.args.conn.now) (state g.S.Store c.one_row.new.conn) (λ shown. AreBeside c.args.cell.now (tables_of (state g.S.Store c.args.conn.now).committed.trees).cells (map (λ x. text_of (column x 0)) shown)) c.one_row.result c.counted-in-Err.result c.counted-in-Err.ensures.counts c.counted-in-Err.ensures.cause c.one_row.ensures
