use Rattle.std.proofs.Common.{◌≡◌, ◌++◌, take}
use Rattle.std.specs.Map.{keys_of}
use Rattle.bucket_map.proofs.map.add_keys.Given as goal

-- the keys of the entries so far
abbrev pub invariant-entries : goal.invariant-entries
invariant-entries g l = l.keys.items ≡ l.fn.keys.items ++ keys_of (take l.key-index l.entries)
