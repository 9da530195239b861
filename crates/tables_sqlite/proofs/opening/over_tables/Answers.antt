use Rattle.std.proofs.Common.{inl, inr}
use Rattle.std.proofs.lemmas.Result.{err_from_is_err_and}
use Rattle.tables_sqlite.proofs.Refusals.{from_err, no_store}
use Rattle.tables_sqlite.proofs.opening.over_tables.Goals as goal

pub returns-then-not-has_tables-clause-refused : goal.returns-then-not-has_tables-clause-refused
returns-then-not-has_tables-clause-refused g c = λ is.
    no_store g.S.Store c.args.conn c.schema.result.now c.schema.ensures.value c.in_default.ensures.none
    (elim (c.has_tables.ensures.lacks c.if-not-has_tables.true) [ inl other ↦ inl other | inr inside ↦ inr (inl inside) ])

pub returns-in_err-is_sound-clause-refused : goal.returns-in_err-is_sound-clause-refused
returns-in_err-is_sound-clause-refused g c =
    let same = err_from_is_err_and c.from_residual.result c.from_residual.ensures.1 in
    rw (same.1, same.2) (λ is. no_store g.S.Store c.args.conn c.schema.result.now c.schema.ensures.value c.in_default.ensures.none (inr (inr (c.in_err-is_sound.ensures.refused (from_err _ is)))))

pub returns-then-not-branch-clause-refused : goal.returns-then-not-branch-clause-refused
returns-then-not-branch-clause-refused g c = λ is.
    no_store g.S.Store c.args.conn c.schema.result.now c.schema.ensures.value c.in_default.ensures.none (inr (inr (c.in_ok-is_sound.ensures.fails c.if-not-branch.true)))
