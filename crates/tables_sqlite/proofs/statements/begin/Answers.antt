use Rattle.sqlite.specs.Held.{state}
use Rattle.table_laws.proofs.Turns.{begins}
use Rattle.tables_sqlite.proofs.statements.begin.Goals as goal

pub returns : goal.returns
returns g c =
    begins (state g.S.Store c.args.conn.now) (state g.S.Store c.execute.new.self) c.requires.serves c.execute.ensures.survives c.execute.result c.execute.ensures.runs
