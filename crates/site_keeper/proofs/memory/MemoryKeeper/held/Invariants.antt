use Rattle.std.proofs.Common.{◌≡◌, take}
use Rattle.std.specs.List.{fold}
use Rattle.site_keeper.specs.Keeper.{with_batch}
use Rattle.site_keeper.proofs.memory.MemoryKeeper.held.Given as goal

-- the first batches are kept
abbrev pub invariant-batches : goal.invariant-batches
invariant-batches l = l.stored ≡ fold with_batch l.initial.stored (take l.batch-index l.batch-items)
