use Rattle.std.proofs.Common.{◌≡◌, ◌≤◌, ◌+◌, ◌++◌, take}
use Rattle.bucket_map.proofs.bucket.put_all.Given as goal

-- the entries so far were put, each by a step
abbrev pub invariant-entries : goal.invariant-entries
invariant-entries g l = record {
  same : l.new.items ≡ l.fn.new.items ++ take l.key-index l.entries;
  cost : l.steps ≤ l.fn.steps + l.key-index;
}
