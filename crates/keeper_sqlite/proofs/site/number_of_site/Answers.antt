use Rattle.keeper_sqlite.proofs.Telling.{tells_head_by}
use Rattle.keeper_sqlite.proofs.site.number_of_site.Goals as goal
use Rattle.sqlite.specs.Held.{state}
use Rattle.table_laws.specs.Moments.{told}

pub returns : goal.returns
returns g c =
    tells_head_by (told c.args.six.now.1 (state g.S.Store c.args.six.now.0)) (told c.head.new.six.1 (state g.S.Store c.head.new.six.0)) c.head.result c.head.ensures
