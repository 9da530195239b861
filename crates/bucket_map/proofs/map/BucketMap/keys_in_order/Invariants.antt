use Rattle.std.proofs.Common.{◌≡◌, ◌++◌, drop}
use Rattle.std.specs.Map.{keys_of}
use Rattle.bucket_map.specs.Buckets.{flat}
use Rattle.bucket_map.proofs.map.BucketMap.keys_in_order.Given as goal

-- the keys so far, and those of the buckets that are left, are all
abbrev pub invariant-buckets : goal.invariant-buckets
invariant-buckets g l = l.keys.items ++ keys_of (flat (drop l.bucket-index l.bucket-items)) ≡ keys_of (flat l.bucket-items)
