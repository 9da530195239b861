use Rattle.std.proofs.Common.{[], ◌∷◌}
use Rattle.std.proofs.lemmas.Result.{err_from_is_err_and}
use Rattle.sqlite.specs.Held.{state}
use Rattle.table_laws.proofs.Over.{is_made}
use Rattle.table_laws.specs.Schema.{begin, make_rows, make_tags, commit}
use Rattle.tables_sqlite.proofs.Refusals.{refused_here, refused_later}
use Rattle.tables_sqlite.proofs.opening.make_tables.Goals as goal

pub returns-in_err-execute-clause-refused : goal.returns-in_err-execute-clause-refused
returns-in_err-execute-clause-refused g c =
    let same = err_from_is_err_and c.from_residual.result c.from_residual.ensures.1 in
    rw (same.1, same.2) (λ refusal.
    refused_here g.S.Store begin (make_rows ∷ make_tags ∷ commit ∷ []) c.args.conn.now c.execute.new.self c.in_err-execute.ensures.survives c.in_err-execute.field-0.0 c.in_err-execute.ensures.runs refusal)

pub returns-in_err-execute-2-clause-refused : goal.returns-in_err-execute-2-clause-refused
returns-in_err-execute-2-clause-refused g c =
    let same = err_from_is_err_and c.from_residual-in_err-execute-2.result c.from_residual-in_err-execute-2.ensures.1 in
    rw (same.1, same.2) (λ refusal.
    refused_later g.S.Store begin (make_rows ∷ make_tags ∷ commit ∷ []) c.args.conn.now c.execute.new.self c.in_ok-execute.ensures.survives c.in_ok-execute.field-0 c.in_ok-execute.ensures.runs
    (refused_here g.S.Store make_rows (make_tags ∷ commit ∷ []) c.execute.new.self c.execute-2.new.self c.in_err-execute-2.ensures.survives c.in_err-execute-2.field-0.0 c.in_err-execute-2.ensures.runs refusal))

pub returns-in_err-execute-3-clause-refused : goal.returns-in_err-execute-3-clause-refused
returns-in_err-execute-3-clause-refused g c =
    let same = err_from_is_err_and c.from_residual-in_err-execute-3.result c.from_residual-in_err-execute-3.ensures.1 in
    rw (same.1, same.2) (λ refusal.
    refused_later g.S.Store begin (make_rows ∷ make_tags ∷ commit ∷ []) c.args.conn.now c.execute.new.self c.in_ok-execute.ensures.survives c.in_ok-execute.field-0 c.in_ok-execute.ensures.runs
    (refused_later g.S.Store make_rows (make_tags ∷ commit ∷ []) c.execute.new.self c.execute-2.new.self c.in_ok-execute-2.ensures.survives c.in_ok-execute-2.field-0 c.in_ok-execute-2.ensures.runs
    (refused_here g.S.Store make_tags (commit ∷ []) c.execute-2.new.self c.execute-3.new.self c.in_err-execute-3.ensures.survives c.in_err-execute-3.field-0.0 c.in_err-execute-3.ensures.runs refusal)))

pub returns-in_err-execute-4-clause-refused : goal.returns-in_err-execute-4-clause-refused
returns-in_err-execute-4-clause-refused g c =
    let same = err_from_is_err_and c.from_residual-in_err-execute-4.result c.from_residual-in_err-execute-4.ensures.1 in
    rw (same.1, same.2) (λ refusal.
    refused_later g.S.Store begin (make_rows ∷ make_tags ∷ commit ∷ []) c.args.conn.now c.execute.new.self c.in_ok-execute.ensures.survives c.in_ok-execute.field-0 c.in_ok-execute.ensures.runs
    (refused_later g.S.Store make_rows (make_tags ∷ commit ∷ []) c.execute.new.self c.execute-2.new.self c.in_ok-execute-2.ensures.survives c.in_ok-execute-2.field-0 c.in_ok-execute-2.ensures.runs
    (refused_later g.S.Store make_tags (commit ∷ []) c.execute-2.new.self c.execute-3.new.self c.in_ok-execute-3.ensures.survives c.in_ok-execute-3.field-0 c.in_ok-execute-3.ensures.runs
    (refused_here g.S.Store commit [] c.execute-3.new.self c.execute-4.new.self c.in_err-execute-4.ensures.survives c.in_err-execute-4.field-0.0 c.in_err-execute-4.ensures.runs refusal))))

pub returns-clause-made : goal.returns-clause-made
returns-clause-made g c =
    is_made (state g.S.Store c.args.conn.now) (state g.S.Store c.execute.new.self) (state g.S.Store c.execute-2.new.self) (state g.S.Store c.execute-3.new.self) (state g.S.Store c.execute-4.new.self) c.requires
    c.in_ok-execute.field-0 c.in_ok-execute-2.field-0 c.in_ok-execute-3.field-0 c.in_ok-execute-4.field-0 c.in_ok-execute.ensures.survives c.in_ok-execute.ensures.runs c.in_ok-execute-2.ensures.survives c.in_ok-execute-2.ensures.runs
    c.in_ok-execute-3.ensures.survives c.in_ok-execute-3.ensures.runs c.in_ok-execute-4.ensures.survives c.in_ok-execute-4.ensures.runs
