use Rattle.std.proofs.Common.{◌≡◌, ◌++◌}
use Rattle.indexed_rows.specs.Rows.{InOrder}
use Rattle.site_import.specs.Changes.{writes_of}
use Rattle.site_import.proofs.Left.{KeptSoFar, Stored}
use Rattle.site_import.proofs.changes.changes_of.Given as goal

-- the writes so far are those of the rows before the ones that are left
abbrev pub invariant-rows : goal.invariant-rows
invariant-rows l = record {
  before : Stored;
  split : l.file ≡ before ++ l.cell-iterator;
  ordered : InOrder l.file;
  writes : l.writes.items ++ writes_of l.base.rows l.cell-iterator ≡ writes_of l.base.rows l.file;
  kept : KeptSoFar l.base.rows l.file l.cell-iterator;
}
