use Rattle.std.proofs.Common.{rules}
use Rattle.keeper_sqlite.proofs.Turns.{memory_at_once, puts_write, removes_write}
use Rattle.keeper_sqlite.proofs.keeping.make_write.Goals as goal
use Rattle.keeper_sqlite.specs.Batches.{MakesWrite}
use Rattle.store_six.specs.At.{at}

pub returns-in_default : goal.returns-in_default
returns-in_default g c = memory_at_once (at g.X.Six c.args.six.now) (MakesWrite c.args.write.now)

pub returns-in-Some : goal.returns-in-Some
returns-in-Some g c = puts_write c.args.write.now (at g.X.Six c.args.six.now) (at g.X.Six c.set_row.new.six) c.set_row.result _ _ _ c.set_row.ensures (search rules) (search rules) (search rules) c.has_its_number.ensures

pub returns : goal.returns
returns g c = removes_write c.args.write.now (at g.X.Six c.args.six.now) (at g.X.Six c.remove_row.new.self) c.remove_row.result c.write.inside.cell _ c.remove_row.ensures (search rules) (search rules) (search rules) c.has_its_number.ensures
