use Rattle.std.proofs.Common.{subst, sym}
use Rattle.keeper_sqlite.proofs.Turns.{memory_at_once, makes_by}
use Rattle.keeper_sqlite.proofs.keeping.set_row.Goals as goal
use Rattle.keeper_sqlite.specs.Batches.{IsBody, PutsRow}
use Rattle.store_six.specs.At.{at}
use Rattle.store_six.specs.Tables.{IsSet, OnCells}

pub returns-in_default : goal.returns-in_default
returns-in_default g c = memory_at_once (at g.X.Six c.args.six.now) (PutsRow c.args.cell.now c.args.row.now c.args.text.now)

pub returns : goal.returns
returns g c =
    makes_by (at g.X.Six c.args.six.now) (at g.X.Six c.set_row.new.self) (OnCells (IsSet c.args.text.now c.as_bytes.result.now)) (PutsRow c.args.cell.now c.args.row.now c.args.text.now)
    (λ x y set. (c.as_bytes.result.now, subst (IsBody c.args.cell.now c.args.row.now) (sym c.as_bytes.ensures.value) c.in-Ok.ensures.back, set)) c.set_row.result c.set_row.ensures
