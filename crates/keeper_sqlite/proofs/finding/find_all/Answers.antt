use Rattle.std.proofs.Common.{Some, None, subst}
use Rattle.keeper_sqlite.proofs.Lines.{both, rows_refused}
use Rattle.keeper_sqlite.proofs.finding.find_all.Goals as goal
use Rattle.keeper_sqlite.specs.Found.{AreRows, Reads}
use Rattle.store_six.specs.At.{at}

pub returns-in-Ok-clause-reads : goal.returns-in-Ok-clause-reads
returns-in-Ok-clause-reads g c =
    both (at g.X.Six c.args.six.now) (at g.X.Six c.find_rows.new.six) (at g.X.Six c.find_counts.new.six) c.args.stored.now c.find_rows.new.stored c.find_counts.new.stored tt c.find_counts.result c.find_counts.ensures.same c.in-Ok.ensures.reads c.find_counts.ensures.reads

pub returns-in-Err-clause-reads : goal.returns-in-Err-clause-reads
returns-in-Err-clause-reads g c = rows_refused (at g.X.Six c.args.six.now) (at g.X.Six c.find_rows.new.six) c.args.stored.now c.find_rows.new.stored c.find_rows.new.stored c.in-Err.fault c.in-Err.ensures.reads
