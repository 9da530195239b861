use Rattle.std.proofs.Common.{drop, None, ◌↔◌}
use Rattle.table_laws.specs.Ids.{RisesFrom}
use Rattle.tables_sqlite.proofs.opening.do_rise.Given as goal

-- the rows that are left rise from the last number exactly where all rise
abbrev pub invariant-rows : goal.invariant-rows
invariant-rows l = RisesFrom l.last (drop l.row-index l.rows) ↔ RisesFrom None l.rows
