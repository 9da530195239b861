use Rattle.std.proofs.Common.{◌≡◌, ◌++◌, length}
use Rattle.std.specs.List.Sorted.{IsStrictlySortedBy}
use Rattle.shared_set.specs.Keys.{flat}
use Rattle.shared_set.proofs.splice.chunks_of.Given as goal

abbrev pub invariant-parts : goal.invariant-parts
invariant-parts g l = record {
  built : flat l.chunks.items ++ l.rest ≡ l.keys;
  ordered : IsStrictlySortedBy g.K.Ord.cmp l.rest;
}

abbrev pub decreases-parts : goal.decreases-parts
decreases-parts g l = length l.rest
