use Rattle.std.proofs.Common.{◌≡◌, ◌≤◌, ◌+◌, ◌*◌, length, drop}
use Rattle.html_out.specs.Segment.{joined}
use Rattle.renderer.proofs.parts.Parts.len.Given as goal

-- each piece added less than 2 ^ 64
abbrev pub invariant-loop-piece : goal.invariant-loop-piece
invariant-loop-piece l = record {
  counted : l.total + length (joined (drop l.piece-index l.piece-items)) ≡ length l.self;
  fits : l.total ≤ l.piece-index * 18446744073709551615;
}
