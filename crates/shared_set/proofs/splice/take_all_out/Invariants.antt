use Rattle.std.proofs.Common.{◌≡◌, take}
use Rattle.std.specs.List.Sorted.{IsStrictlySortedBy}
use Rattle.shared_set.specs.Keys.{flat, without_all}
use Rattle.shared_set.proofs.splice.take_all_out.Given as goal

abbrev pub invariant-keys : goal.invariant-keys
invariant-keys g l = record {
  same : flat l.chunks.items ≡ without_all g.K.Ord.cmp (flat l.fn.chunks.items) (take l.key-index l.keys);
  ordered : IsStrictlySortedBy g.K.Ord.cmp (flat l.chunks.items);
}
