use Rattle.std.proofs.Common.{◌≡◌, take}
use Rattle.html_out.specs.Segment.{joined}
use Rattle.html_out.proofs.flat.flatten.Given as goal

abbrev pub invariant-loop-piece : goal.invariant-loop-piece
invariant-loop-piece l = l.all.items ≡ joined (take l.piece-index l.pieces)
