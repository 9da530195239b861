use Rattle.std.proofs.Common.{All}
use Rattle.std.specs.List.{filter}
use Rattle.std.specs.Vec.Iter.{into_iter_items}
use Rattle.site_targets.specs.Open.{is_open}
use Rattle.site_targets.proofs.Passing.{PassedSoFar}
use Rattle.site_targets.proofs.PlainTargets.{IsOwnPath}
use Rattle.site_targets.proofs.open.open_among.Given as goal

-- with those that pass of what is left they are all that pass
abbrev pub invariant-candidates : goal.invariant-candidates
invariant-candidates l = record {
  so_far : PassedSoFar (is_open l.state.rows) l.passed.items (into_iter_items l.target-iterator) (filter (is_open l.state.rows) l.fn.candidates.items);
  plain : All IsOwnPath (into_iter_items l.target-iterator);
}
