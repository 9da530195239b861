use Rattle.std.proofs.Common.{rules, ◌∙◌, ◌≡◌, ap, sym, subst, [], get_or}
use Rattle.std.specs.Map.{lookup, keys_of}
use Rattle.std.specs.List.Sorted.{IsStrictlySortedBy}
use Rattle.std.specs.BTreeMap.{is_at}
use Rattle.bucket_map.proofs.InBuckets.{found_in_bucket, bucket_sorted}
use Rattle.bucket_map.proofs.map.BucketMap.get.Goals as goal

pub get-requires-in-Some : goal.get-requires-in-Some
get-requires-in-Some g c =
    let bs = c.self.inside.buckets.items in
    let R = g.K.Ord.cmp in
    let n = g.K.Placed.place c.args.key.now in
    let own : c.in-Some.bucket.now ≡ get_or bs n [] = search rules in
    subst (λ b. IsStrictlySortedBy R (keys_of b)) (sym own) (bucket_sorted R g.met.K.Ord.total g.met.K.Placed.exact g.K.Placed.place n bs c.self.invariant.0)

pub returns-in-Some : goal.returns-in-Some
returns-in-Some g c =
    let bs = c.self.inside.buckets.items in
    let R = g.K.Ord.cmp in
    let k = c.args.key.now in
    let own : c.in-Some.bucket.now ≡ get_or bs (g.K.Placed.place k) [] = search rules in
    let all = found_in_bucket R g.met.K.Ord.total g.met.K.Placed.exact g.K.Placed.place k bs c.self.invariant.0 in
    c.get-in-Some.ensures ∙ ap (λ b. lookup (is_at (R k)) b) own ∙ sym all ∙ ap (λ b. lookup (is_at (R k)) b) c.self.view_is

pub returns-in-None : goal.returns-in-None
returns-in-None g c =
    let bs = c.self.inside.buckets.items in
    let R = g.K.Ord.cmp in
    let k = c.args.key.now in
    let own : get_or bs (g.K.Placed.place k) [] ≡ [] = search rules in
    let all = found_in_bucket R g.met.K.Ord.total g.met.K.Placed.exact g.K.Placed.place k bs c.self.invariant.0 in
    ap (λ b. lookup (is_at (R k)) b) (sym own) ∙ sym all ∙ ap (λ b. lookup (is_at (R k)) b) c.self.view_is
