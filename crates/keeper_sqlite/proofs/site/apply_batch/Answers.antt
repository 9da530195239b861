use Rattle.std.proofs.Common.{Err, ap, subst, sym, ◌∙◌}
use Rattle.keeper_sqlite.proofs.Telling.{applies_ok, applies_err}
use Rattle.keeper_sqlite.proofs.site.apply_batch.Goals as goal
use Rattle.keeper_sqlite.specs.Batches.{Keeps}
use Rattle.keeper_sqlite.specs.Telling.{Applies}
use Rattle.sqlite.specs.Held.{state}
use Rattle.table_laws.specs.Moments.{told}
use Rattle.table_laws.specs.Stored.{tables_of}

pub returns-in-Ok : goal.returns-in-Ok
returns-in-Ok g c =
    let old = told c.args.six.now.1 (state g.S.Store c.args.six.now.0) in
    let new = told c.keep.new.six.1 (state g.S.Store c.keep.new.six.0) in
    applies_ok c.args.batch.now old new (λ clean usable t left. left.2 ∙ ap tables_of (g.met.S.Store.settled c.keep.new.six.0.store left.0 usable left.1)) tt
    (subst (Keeps c.args.batch.now old new) c.in-Ok.is c.keep.ensures)

pub returns-in-Err : goal.returns-in-Err
returns-in-Err g c =
    let old = told c.args.six.now.1 (state g.S.Store c.args.six.now.0) in
    let new = told c.keep.new.six.1 (state g.S.Store c.keep.new.six.0) in
    subst (λ f. Applies c.args.batch.now old new (Err f)) (sym c.fault_of.ensures)
    (applies_err c.args.batch.now old new (λ clean usable t left. left.2 ∙ ap tables_of (g.met.S.Store.settled c.keep.new.six.0.store left.0 usable left.1)) c.in-Err.fault
    (subst (Keeps c.args.batch.now old new) c.in-Err.is c.keep.ensures))
