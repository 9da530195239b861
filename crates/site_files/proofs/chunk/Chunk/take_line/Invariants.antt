use Rattle.std.proofs.Common.{◌≡◌, ◌+◌, ◌-◌, length, IsTrue}
use Rattle.site_io.specs.Told.{before}
use Rattle.site_files.specs.Lines.{is_one_line, longest}
use Rattle.site_files.proofs.PieceLaws.{TakenSoFar}
use Rattle.site_files.proofs.chunk.Chunk.take_line.Given as goal

abbrev pub invariant-pieces : goal.invariant-pieces
invariant-pieces g l = record {
  so_far : TakenSoFar (before l.fn.self (g.S.Source.left l.fn.source)) l.line.items l.self (g.S.Source.left l.source);
  one : IsTrue (is_one_line l.line.items);
  steady : g.S.Source.faults l.source ≡ g.S.Source.faults l.fn.source;
}

abbrev pub decreases-pieces : goal.decreases-pieces
decreases-pieces g l = longest + 1 - length l.line.items
