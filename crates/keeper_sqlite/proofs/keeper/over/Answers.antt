use Rattle.keeper_sqlite.proofs.Telling.{begins_over}
use Rattle.keeper_sqlite.proofs.keeper.over.Goals as goal
use Rattle.sqlite.specs.Held.{state}

pub returns-clause-begins : goal.returns-clause-begins
returns-clause-begins g c = begins_over (state g.S.Store c.args.conn) (state g.S.Store c.in_ok-six.six.0) c.in_ok-six.six.1 c.in_ok-six.ensures.over.1
