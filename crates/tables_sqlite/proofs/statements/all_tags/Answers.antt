use Rattle.table_laws.proofs.Queries.{finds_tags}
use Rattle.tables_sqlite.proofs.statements.all_tags.Goals as goal

pub returns : goal.returns
returns g c = finds_tags g.S.Store c.args.conn.now c.query.new.conn c.requires.outside c.requires.serves c.query.result c.query.ensures
