use Rattle.std.proofs.Common.{◌≡◌, length}
use Rattle.bucket_map.specs.Buckets.{flat, ArePlaced}
use Rattle.bucket_map.proofs.map.fill.Given as goal

-- what was made so far has no entry
abbrev pub invariant-more : goal.invariant-more
invariant-more g l = record {
  placed : ArePlaced g.K.Ord.cmp g.K.Placed.place 0 l.fn.buckets.items → ArePlaced g.K.Ord.cmp g.K.Placed.place 0 l.buckets.items;
  same : flat l.buckets.items ≡ flat l.fn.buckets.items;
  count : length l.buckets.items ≡ l._made;
}
