use Rattle.std.proofs.Common.{sym, subst}
use Rattle.std.specs.List.Sorted.{IsPermutation}
use Rattle.bucket_map.specs.Buckets.{flat, in_order}
use Rattle.bucket_map.proofs.Walks.{moved_in_buckets}
use Rattle.bucket_map.proofs.map.BucketMap.buckets.Goals as goal

pub returns : goal.returns
returns g c =
    let bs = c.self.inside.buckets.items in
    let moved = moved_in_buckets g.K.Ord.cmp g.met.K.Ord.total g.met.K.Placed.exact g.K.Placed.place bs c.self.invariant.0 in
    subst (λ es. IsPermutation es (flat c.as_slice.result.now)) c.self.view_is
    (subst (λ l. IsPermutation (in_order g.K.Ord.cmp (flat bs)) (flat l)) (sym c.as_slice.ensures.value) moved)
