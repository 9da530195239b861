use Rattle.keeper_sqlite.proofs.Telling.{loads_by}
use Rattle.keeper_sqlite.proofs.site.load_site.Goals as goal
use Rattle.sqlite.specs.Held.{state}
use Rattle.table_laws.specs.Moments.{told}

pub returns-clause-right : goal.returns-clause-right
returns-clause-right g c = c.found.ensures.right

pub returns-clause-loads : goal.returns-clause-loads
returns-clause-loads g c =
    loads_by (told c.args.six.now.1 (state g.S.Store c.args.six.now.0)) (told c.found.new.six.1 (state g.S.Store c.found.new.six.0)) c.found.result c.found.ensures.reads
