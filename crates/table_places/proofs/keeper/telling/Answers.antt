use Rattle.std.proofs.Common.{subst, sym}
use Rattle.sqlite.specs.Held.{state}
use Rattle.table_places.proofs.Standing.{began_over}
use Rattle.table_places.proofs.keeper.telling.Goals as goal
use Rattle.table_places.specs.Telling.{BeganOver}

pub returns-clause-began : goal.returns-clause-began
returns-clause-began g c =
    subst (BeganOver (state g.S.Store c.args.conn) (state g.S.Store c.load.new.self.0.0)) (sym c.in-Ok-duplicate.ensures)
    (began_over (state g.S.Store c.args.conn) (state g.S.Store c.in_ok-keeper.keeper.0.0) (state g.S.Store c.load.new.self.0.0) c.in_ok-keeper.keeper.0.1 c.load.new.self.0.1 c.in_ok-keeper.ensures.begins c.in-Ok.held c.in-Ok.ensures.loads)
