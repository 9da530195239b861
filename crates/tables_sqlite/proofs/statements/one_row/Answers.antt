use Rattle.table_laws.proofs.Queries.{finds_one}
use Rattle.tables_sqlite.proofs.statements.one_row.Goals as goal

pub returns : goal.returns
returns g c = finds_one g.S.Store c.args.conn.now c.query.new.conn c.requires.outside c.requires.serves c.query.result c.args.cell.now c.query.ensures
