use Rattle.std.proofs.Common.{◌≡◌, take}
use Rattle.std.specs.List.Sorted.{IsStrictlySortedBy}
use Rattle.shared_set.specs.Keys.{flat, with_all}
use Rattle.shared_set.proofs.splice.put_all_in.Given as goal

abbrev pub invariant-keys : goal.invariant-keys
invariant-keys g l = record {
  same : flat l.chunks.items ≡ with_all g.K.Ord.cmp (flat l.fn.chunks.items) (take l.key-index l.keys);
  ordered : IsStrictlySortedBy g.K.Ord.cmp (flat l.chunks.items);
}
