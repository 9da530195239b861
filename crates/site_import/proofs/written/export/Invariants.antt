use Rattle.std.proofs.Common.{◌≡◌}
use Rattle.indexed_rows.specs.Rows.{InOrder}
use Rattle.site_import.proofs.Left.{ToldSoFar, WrittenSoFar}
use Rattle.site_import.proofs.written.export.Given as goal

-- what is to be written is what was written so far and the lines of the rows that are left
abbrev pub invariant-rows : goal.invariant-rows
invariant-rows g l = record {
  ordered : InOrder l.state.rows;
  written : WrittenSoFar (g.O.Sink.written l.fn.sink) (g.O.Sink.written l.sink) l.state.rows l.cell-iterator;
  told : ToldSoFar l.state.rows l.cell-iterator;
  faults : g.O.Sink.faults l.sink ≡ g.O.Sink.faults l.fn.sink;
}
