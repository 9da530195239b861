use Rattle.std.proofs.Common.{◌≡◌, ◌≤◌, ◌<◌, ◌-◌, [], length, take, get_or, true, false}
use Rattle.shared_set.specs.Keys.{flat, reaches}
use Rattle.shared_set.proofs.within.first_entering.Given as goal

abbrev pub invariant-halves : goal.invariant-halves
invariant-halves g l = record {
  bound : l.low ≤ l.high;
  within : l.high ≤ length l.chunks;
  passed : reaches g.S.Span.beside l.span (flat (take l.low l.chunks)) ≡ false;
  there : l.high < length l.chunks → reaches g.S.Span.beside l.span (get_or l.chunks l.high []) ≡ true;
}

abbrev pub decreases-halves : goal.decreases-halves
decreases-halves g l = l.high - l.low
