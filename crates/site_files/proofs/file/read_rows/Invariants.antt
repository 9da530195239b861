use Rattle.std.proofs.Common.{◌≡◌}
use Rattle.indexed_rows.specs.Rows.{AreValidRows}
use Rattle.site_io.specs.Told.{before}
use Rattle.site_files.proofs.LineLaws.{ReadSoFar}
use Rattle.site_files.proofs.file.read_rows.Given as goal

abbrev pub invariant-lines : goal.invariant-lines
invariant-lines g l = record {
  so_far : ReadSoFar (g.S.Source.left l.fn.source) l.number l.rows (before l.chunk (g.S.Source.left l.source));
  valid : AreValidRows l.rows;
  steady : g.S.Source.faults l.source ≡ g.S.Source.faults l.fn.source;
}
