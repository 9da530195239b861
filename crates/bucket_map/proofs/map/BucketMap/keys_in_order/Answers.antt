use Rattle.std.proofs.Common.{arith, ◌≡◌, ◌∙◌, ap, subst}
use Rattle.std.specs.Map.{keys_of}
use Rattle.std.specs.List.Sorted.{IsPermutation}
use Rattle.bucket_map.specs.Buckets.{flat}
use Rattle.bucket_map.proofs.Walks.{keys_all, fresh_in_buckets, sorted_keys}
use Rattle.bucket_map.proofs.map.BucketMap.keys_in_order.Goals as goal

pub returns : goal.returns
returns g c =
    let bs = c.self.inside.buckets.items in
    let items = c.deref-bucket-items.result.now in
    let R = g.K.Ord.cmp in
    let fresh = fresh_in_buckets R g.met.K.Ord.total g.met.K.Placed.exact g.K.Placed.place bs c.self.invariant.0 in
    let gathered : c.buckets.keys.items ≡ keys_of (flat bs) =
    keys_all c.buckets.keys.items (keys_of (flat items)) items c.buckets.bucket-index (omega arith) c.buckets.invariant ∙ ap (λ l. keys_of (flat l)) c.deref-bucket-items.ensures.value in
    sorted_keys R g.met.K.Ord.total g.met.K.Placed.exact (flat bs) c.sort.new.self.items fresh
    (subst (λ l. IsPermutation l c.sort.new.self.items) gathered c.sort.ensures.permutation) c.in_ok-sort.ensures.sorted
    ∙ ap (λ es. keys_of es) c.self.view_is
