use Rattle.std.proofs.Common.{◌↔◌}
use Rattle.indexed_rows.proofs.RightRows.{AllRight}
use Rattle.indexed_rows.proofs.rows.Rows.are_right.Given as goal

-- the rows that are left are right exactly where all are
abbrev pub invariant-rows : goal.invariant-rows
invariant-rows l = AllRight l.cell-iterator ↔ AllRight l.self
