use Rattle.tables_sqlite.proofs.Refusals.{no_column}
use Rattle.tables_sqlite.proofs.opening.number_in.Goals as goal

pub returns-in_default-clause-none : goal.returns-in_default-clause-none
returns-in_default-clause-none c = λ n. no_column c.args.row.now n c.in_default.ensures.err.1
