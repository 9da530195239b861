use Rattle.std.proofs.Common.{sym, ◌∙◌}
use Rattle.std.proofs.lemmas.Result.{err_from_is_err_and}
use Rattle.tables_sqlite.proofs.Refusals.{from_err, not_made}
use Rattle.tables_sqlite.proofs.opening.over.Goals as goal

pub returns-in_err-make_tables-clause-refused : goal.returns-in_err-make_tables-clause-refused
returns-in_err-make_tables-clause-refused g c =
    let same = err_from_is_err_and c.from_residual.result c.from_residual.ensures.1 in
    rw (same.1, same.2) (λ is. not_made g.S.Store c.args.conn (sym c.schema.ensures.value ∙ c.is_bare.ensures.0 c.if-is_bare.true) (c.in_err-make_tables.ensures.refused (from_err _ is)))
