use Rattle.std.proofs.Common.{◌∙◌, ap, sym, length}
use Rattle.bucket_map.proofs.Walks.{length_in_buckets}
use Rattle.bucket_map.proofs.map.BucketMap.len.Goals as goal

pub returns : goal.returns
returns g c =
    c.self.invariant.1
    ∙ sym (length_in_buckets g.K.Ord.cmp g.met.K.Ord.total g.met.K.Placed.exact g.K.Placed.place c.self.inside.buckets.items c.self.invariant.0)
    ∙ ap (λ es. length es) c.self.view_is
