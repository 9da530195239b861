use Rattle.std.proofs.Common.{◌≡◌, ◌≤◌, ◌-◌, [], length, take, drop}
use Rattle.std.specs.List.{filter}
use Rattle.shared_set.specs.Keys.{is_from}
use Rattle.shared_set.proofs.within.first_from.Given as goal

abbrev pub invariant-halves : goal.invariant-halves
invariant-halves g l = record {
  bound : l.low ≤ l.high;
  within : l.high ≤ length l.keys;
  passed : filter (is_from g.S.Span.beside l.span) (take l.low l.keys) ≡ [];
  left : filter (is_from g.S.Span.beside l.span) (drop l.high l.keys) ≡ drop l.high l.keys;
}

abbrev pub decreases-halves : goal.decreases-halves
decreases-halves g l = l.high - l.low
