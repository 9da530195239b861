use Rattle.std.proofs.Common.{◌≡◌, drop}
use Rattle.indexed_rows.specs.Rows.{AreValidRows}
use Rattle.keeper_sqlite.proofs.finding.take_rows.Given as goal
use Rattle.keeper_sqlite.specs.Found.{with_rows}

-- with the lines that are left, what is held comes to what all come to; and where the rows were right, they are
abbrev pub invariant-lines : goal.invariant-lines
invariant-lines l = (with_rows l.stored (drop l.line-index l.lines) ≡ with_rows l.initial.stored l.lines) × (AreValidRows l.initial.stored.rows → AreValidRows l.stored.rows)
