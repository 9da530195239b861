use Rattle.sqlite.specs.Held.{state}
use Rattle.table_laws.proofs.Statements.{removes_row}
use Rattle.tables_sqlite.proofs.statements.remove_row.Goals as goal

pub returns : goal.returns
returns g c =
    removes_row (state g.S.Store c.args.conn.now) (state g.S.Store c.execute.new.self) c.requires.inside c.requires.serves c.args.cell.now c.execute.ensures.survives c.execute.result c.execute.ensures.runs
