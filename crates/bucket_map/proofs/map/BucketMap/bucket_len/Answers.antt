use Rattle.std.proofs.Common.{rules, ◌∙◌, ◌≡◌, ap, sym, [], get_or, length}
use Rattle.bucket_map.specs.Buckets.{bucket_size}
use Rattle.bucket_map.proofs.InBuckets.{size_is}
use Rattle.bucket_map.proofs.map.BucketMap.bucket_len.Goals as goal

pub returns-in-Some : goal.returns-in-Some
returns-in-Some g c =
    let bs = c.self.inside.buckets.items in
    let n = g.K.Placed.place c.args.key.now in
    let own : c.in-Some.bucket.now ≡ get_or bs n [] = search rules in
    let shown : c.as_slice.result.now ≡ c.in-Some.bucket.now = search rules in
    ap length shown
    ∙ ap length own
    ∙ sym (size_is g.K.Ord.cmp g.met.K.Ord.total g.met.K.Placed.exact g.K.Placed.place bs c.self.invariant.0 n)
    ∙ ap (λ es. bucket_size g.K.Placed.place es n) c.self.view_is

pub returns-in-None : goal.returns-in-None
returns-in-None g c =
    let bs = c.self.inside.buckets.items in
    let n = g.K.Placed.place c.args.key.now in
    let own : get_or bs n [] ≡ [] = search rules in
    ap length (sym own)
    ∙ sym (size_is g.K.Ord.cmp g.met.K.Ord.total g.met.K.Placed.exact g.K.Placed.place bs c.self.invariant.0 n)
    ∙ ap (λ es. bucket_size g.K.Placed.place es n) c.self.view_is
