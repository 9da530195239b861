use Rattle.std.proofs.Common.{inl, inr, None, subst, sym, ◌∙◌, true≢false}
use Rattle.std.proofs.lemmas.Result.{err_from_is_err_and}
use Rattle.table_laws.proofs.Calls.{is_inside, is_outside}
use Rattle.table_laws.specs.Ids.{RisesFrom}
use Rattle.tables_sqlite.proofs.Refusals.{refused_query, useless_answer}
use Rattle.tables_sqlite.proofs.opening.come_once.Goals as goal

pub returns-in_err-rows-clause-refused : goal.returns-in_err-rows-clause-refused
returns-in_err-rows-clause-refused g c =
    let same = err_from_is_err_and c.from_residual.result c.from_residual.ensures.1 in
    rw (same.1, same.2) (λ refusal. refused_query g.S.Store c.args.sql.now c.args.conn.now c.query.new.conn c.in_err-rows.field-0.0 c.in_err-rows.ensures refusal)

pub returns-then-not-do_rise-clause-fails : goal.returns-then-not-do_rise-clause-fails
returns-then-not-do_rise-clause-fails g c = λ no.
    useless_answer g.S.Store c.args.sql.now c.args.conn.now c.query.new.conn c.in_ok-rows.rows c.in_ok-rows.ensures
    (inl (λ rise. true≢false (sym (c.do_rise.ensures.1 (subst (RisesFrom None) (sym c.deref.ensures.value) rise)) ∙ c.if-not-do_rise.true)))

pub returns-clause-passes : goal.returns-clause-passes
returns-clause-passes g c = λ yes. record {
  rises = (c.in_ok-rows.rows, c.in_ok-rows.ensures, subst (RisesFrom None) c.deref.ensures.value (c.do_rise.ensures.0 c.if-not-do_rise.false));
  outside = is_outside _ _ c.is_autocommit.ensures.value yes;
}

pub returns-clause-fails : goal.returns-clause-fails
returns-clause-fails g c = λ no.
    useless_answer g.S.Store c.args.sql.now c.args.conn.now c.query.new.conn c.in_ok-rows.rows c.in_ok-rows.ensures (inr (is_inside _ _ c.is_autocommit.ensures.value no))
