use Rattle.std.proofs.Common.{rules}
use Rattle.keeper_sqlite.proofs.Lines.{as_refused}
use Rattle.keeper_sqlite.proofs.finding.found.Goals as goal
use Rattle.keeper_sqlite.specs.Found.{nothing_held}
use Rattle.store_six.specs.At.{at}

pub returns-in-Err-clause-reads : goal.returns-in-Err-clause-reads
returns-in-Err-clause-reads g c = as_refused (at g.X.Six c.args.six.now) (at g.X.Six c.find_all.new.six) _ nothing_held _ _ c.in-Err.fault c.in-Err.ensures.reads (search rules)
