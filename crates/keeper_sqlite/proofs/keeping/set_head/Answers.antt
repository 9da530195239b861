use Rattle.std.proofs.Common.{codes, subst, sym, ap, ◌≡◌}
use Rattle.keeper_sqlite.proofs.Turns.{memory_at_once, makes_by}
use Rattle.keeper_sqlite.proofs.keeping.set_head.Goals as goal
use Rattle.keeper_sqlite.specs.Batches.{SetsHead}
use Rattle.keeper_sqlite.specs.Numbers.{head_in}
use Rattle.std.specs.Prelude.{Some}
use Rattle.store_six.specs.At.{at}
use Rattle.store_six.specs.Tables.{IsSet, OnCells}

pub returns-in_default : goal.returns-in_default
returns-in_default g c = memory_at_once (at g.X.Six c.args.six.now) (SetsHead c.args.head)

pub returns : goal.returns
returns g c =
    makes_by (at g.X.Six c.args.six.now) (at g.X.Six c.set_row.new.self) (OnCells (IsSet (codes "head") c.as_bytes.result.now)) (SetsHead c.args.head)
    (λ x y set. (c.as_bytes.result.now, subst (λ t. head_in t ≡ Some c.args.head) (sym c.as_bytes.ensures.value) c.in-Ok.ensures, set)) c.set_row.result c.set_row.ensures
