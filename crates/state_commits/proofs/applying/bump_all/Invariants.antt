use Rattle.std.proofs.Common.{ℕ, ◌≡◌, ◌≤◌, ◌+◌, ◌*◌, take, fold, length}
use Rattle.bucket_map.specs.Buckets.{bucket_size, AtMost}
use Rattle.tag_counts.specs.Counts.{bumped}
use Rattle.tag_counts.specs.Key.{tag_place}
use Rattle.state_commits.proofs.applying.bump_all.Given as goal

-- so far the tags so far are counted, and each bucket has at most one count more for each of them
abbrev pub invariant-tags : goal.invariant-tags
invariant-tags g l = record {
  same : l.counts ≡ fold bumped l.fn.counts (take l.tag-index l.tags);
  sizes : (n : ℕ) → bucket_size tag_place l.counts n ≤ bucket_size tag_place l.fn.counts n + l.tag-index;
  cost : (most : ℕ) → AtMost tag_place l.fn.counts most l.tags → l.steps ≤ l.fn.steps + (most + length l.tags) * l.tag-index;
}
