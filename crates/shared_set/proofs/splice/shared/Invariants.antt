use Rattle.std.proofs.Common.{◌≡◌, take}
use Rattle.shared_set.proofs.splice.shared.Given as goal

abbrev pub invariant-chunks : goal.invariant-chunks
invariant-chunks g l = l.chunks.items ≡ take l.chunk-index l.all
