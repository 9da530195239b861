use Rattle.sqlite.specs.Held.{state}
use Rattle.table_laws.proofs.Statements.{sets_row}
use Rattle.tables_sqlite.proofs.statements.set_row.Goals as goal

pub returns : goal.returns
returns g c =
    sets_row (state g.S.Store c.args.conn.now) (state g.S.Store c.execute.new.self) c.requires.inside c.requires.serves c.args.cell.now c.args.body.now c.execute.ensures.survives c.execute.result c.execute.ensures.runs
