use Rattle.std.proofs.Common.{◌≡◌, take}
use Rattle.bucket_map.proofs.map.BucketMap.share.Given as goal

-- the buckets so far
abbrev pub invariant-buckets : goal.invariant-buckets
invariant-buckets g l = l.buckets.items ≡ take l.bucket-index l.bucket-items
