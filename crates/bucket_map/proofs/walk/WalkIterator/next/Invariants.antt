use Rattle.std.proofs.Common.{◌≡◌, ◌++◌, length}
use Rattle.bucket_map.specs.Buckets.{flat}
use Rattle.bucket_map.proofs.walk.WalkIterator.next.Given as goal

-- the same entries are left
abbrev pub invariant-empty : goal.invariant-empty
invariant-empty g l =
    l.self-inside.bucket.now ++ flat l.self-inside.buckets.now ≡ l.initial.self-inside.bucket.now ++ flat l.initial.self-inside.buckets.now

abbrev pub decreases-empty : goal.decreases-empty
decreases-empty g l = length l.self-inside.buckets.now
