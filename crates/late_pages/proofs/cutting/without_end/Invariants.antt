use Rattle.std.proofs.Common.{◌≡◌, ◌++◌, ◌-◌, drop, take, length}
use Rattle.html_out.specs.Segment.{joined}
use Rattle.late_out.specs.Marks.{body_end}
use Rattle.late_pages.proofs.cutting.without_end.Given as goal

-- what is left to be taken stands behind what is there
abbrev pub invariant-loop-piece : goal.invariant-loop-piece
invariant-loop-piece l = l.front ++ take l.left (joined (drop l.piece-index l.pieces)) ≡ take (length l.text - length body_end) l.text
