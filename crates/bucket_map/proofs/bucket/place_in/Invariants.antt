use Rattle.std.proofs.Common.{◌≡◌, ◌≤◌, ◌-◌, length, take, drop}
use Rattle.std.specs.List.{AllByRecursion}
use Rattle.std.specs.Map.{keys_of}
use Rattle.std.specs.declared.cmp.Ordering.TheVariants.{Less, Greater}
use Rattle.bucket_map.proofs.bucket.place_in.Given as goal

-- the keys before are below the sought one, those behind are above it
abbrev pub invariant-halves : goal.invariant-halves
invariant-halves g l = record {
  within : l.low ≤ l.high;
  inside : l.high ≤ length l.entries;
  below : AllByRecursion (λ q. g.K.Ord.cmp l.key q ≡ Greater) (keys_of (take l.low l.entries));
  above : AllByRecursion (λ q. g.K.Ord.cmp l.key q ≡ Less) (keys_of (drop l.high l.entries));
}

abbrev pub decreases-halves : goal.decreases-halves
decreases-halves g l = l.high - l.low
