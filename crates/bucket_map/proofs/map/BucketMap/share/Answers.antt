use Rattle.std.proofs.Common.{arith, ◌≡◌, ◌∙◌, length, sym, subst}
use Rattle.std.proofs.lemmas.List.{take_all}
use Rattle.bucket_map.specs.Buckets.{flat, ArePlaced}
use Rattle.bucket_map.proofs.map.BucketMap.share.Goals as goal

pub invariant_of-result : goal.invariant_of-result
invariant_of-result g c =
    let same : c.buckets.buckets.items ≡ c.self.inside.buckets.items =
    c.buckets.invariant ∙ take_all c.buckets.bucket-index c.deref-bucket-items.result.now (omega arith) ∙ c.deref-bucket-items.ensures.value in
    subst (λ bs. ArePlaced g.K.Ord.cmp g.K.Placed.place 0 bs × (c.self.inside.size ≡ length (flat bs))) (sym same) c.self.invariant
