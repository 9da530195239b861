use Rattle.std.proofs.Common.{◌≡◌, subst, rules}
use Rattle.sqlite.specs.Values.{bound}
use Rattle.table_laws.specs.Moments.{Queries}
use Rattle.tables_sqlite.proofs.statements.query.Goals as goal

pub returns : goal.returns
returns g c =
    let begun = c.transaction-turn.ensures.begun in
    let end = c.rollback.new.self.0 in
    let made : Queries g.S.Store c.args.sql.now (bound c.args.params.now) c.args.conn.now end c.query_all-rows.result = record {
      mid = c.query_all-rows.new.self.conn.now;
      first = rw begun at c.query_all-rows.ensures.survives;
      shown = λ clean. rw begun at (c.query_all-rows.ensures.ok clean);
      refused = λ clean. rw begun at (c.query_all-rows.ensures.err clean);
      second = c.rollback.ensures.survives;
      undone = c.rollback.ensures.undone;
    } in
    let same : end ≡ c.conn-1.given.0 = search rules in
    subst (λ h. Queries g.S.Store c.args.sql.now (bound c.args.params.now) c.args.conn.now h c.query_all-rows.result) same made
