use Rattle.std.proofs.Common.{◌≡◌, ◌++◌, take}
use Rattle.html_out.specs.Segment.{joined}
use Rattle.late_pages.proofs.part.append.Given as goal

abbrev pub invariant-loop-piece : goal.invariant-loop-piece
invariant-loop-piece l = l.text ≡ l.fn.text ++ joined (take l.piece-index l.pieces)
