use Rattle.std.proofs.Common.{List, map, refl, sym, ap, subst, ◌∙◌, arith}
use Rattle.sqlite.specs.Held.{state}
use Rattle.sqlite.specs.Order.{Row}
use Rattle.store_six.specs.Tables.{AreAll}
use Rattle.table_laws.specs.Stored.{bytes_of, shown_entry, tables_of}
use Rattle.table_laws.proofs.Calls.{unread, read, not_read, is_outside}
use Rattle.table_laws.specs.Moments.{Finds}
use Rattle.tables_sqlite.proofs.calls.all_tags.Goals as goal

pub returns-then-not-is_autocommit-clause-serves : goal.returns-then-not-is_autocommit-clause-serves
returns-then-not-is_autocommit-clause-serves g c = c.requires

pub returns-then-not-is_autocommit-clause-reads : goal.returns-then-not-is_autocommit-clause-reads
returns-then-not-is_autocommit-clause-reads g c =
    unread c.args.faults.now c.counted.new.faults (λ lines. AreAll (tables_of (state g.S.Store c.args.conn.now).committed.trees).tags lines.items) (state g.S.Store c.args.conn.now) c.counted.result c.counted.ensures.counts c.counted.ensures.cause

pub all_tags-requires-clause-outside : goal.all_tags-requires-clause-outside
all_tags-requires-clause-outside g c = is_outside _ _ c.is_autocommit.ensures.value c.if-not-is_autocommit.false

pub all_tags-requires-clause-serves : goal.all_tags-requires-clause-serves
all_tags-requires-clause-serves g c = c.requires

pub returns-in-Ok-tag_lines-clause-serves : goal.returns-in-Ok-tag_lines-clause-serves
returns-in-Ok-tag_lines-clause-serves g c = c.all_tags.ensures.serves

pub returns-in-Ok-tag_lines-clause-reads : goal.returns-in-Ok-tag_lines-clause-reads
returns-in-Ok-tag_lines-clause-reads g c =
    let Are : List Row → Type 0 = (λ shown. AreAll (tables_of (state g.S.Store c.args.conn.now).committed.trees).tags (map (shown_entry bytes_of) shown)) in
    read c.args.faults.now c.args.faults.now (λ lines. AreAll (tables_of (state g.S.Store c.args.conn.now).committed.trees).tags lines.items) (state g.S.Store c.args.conn.now) (state g.S.Store c.all_tags.new.conn) Are c.in-Ok.rows c.in-Ok-tag_lines.lines refl
    (λ all. subst (λ l. AreAll (tables_of (state g.S.Store c.args.conn.now).committed.trees).tags l) (sym (c.in-Ok-tag_lines.ensures ∙ ap (map (shown_entry bytes_of)) c.as_slice.ensures.value)) all)
    (subst (Finds Are (state g.S.Store c.args.conn.now) (state g.S.Store c.all_tags.new.conn)) c.in-Ok.is c.all_tags.ensures)

pub returns-in-Ok-clause-serves : goal.returns-in-Ok-clause-serves
returns-in-Ok-clause-serves g c = c.all_tags.ensures.serves

pub returns-in-Ok-clause-reads : goal.returns-in-Ok-clause-reads
returns-in-Ok-clause-reads g c =
    not_read c.args.faults.now c.args.faults.now (λ lines. AreAll (tables_of (state g.S.Store c.args.conn.now).committed.trees).tags lines.items) (state g.S.Store c.args.conn.now) (state g.S.Store c.all_tags.new.conn) (λ shown. AreAll (tables_of (state g.S.Store c.args.conn.now).committed.trees).tags (map (shown_entry bytes_of) shown)) c.all_tags.result _ (omega arith) refl c.all_tags.ensures

pub returns-clause-serves : goal.returns-clause-serves
returns-clause-serves g c = c.all_tags.ensures.serves

pub returns-clause-reads : goal.returns-clause-reads
returns-clause-reads g c =
    not_read c.args.faults.now c.counted-in-Err.new.faults (λ lines. AreAll (tables_of (state g.S.Store c.args.conn.now).committed.trees).tags lines.items) (state g.S.Store c.args.conn.now) (state g.S.Store c.all_tags.new.conn) (λ shown. AreAll (tables_of (state g.S.Store c.args.conn.now).committed.trees).tags (map (shown_entry bytes_of) shown)) c.all_tags.result c.counted-in-Err.result c.counted-in-Err.ensures.counts c.counted-in-Err.ensures.cause c.all_tags.ensures
