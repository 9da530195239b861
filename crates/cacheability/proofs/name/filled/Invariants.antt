use Rattle.std.proofs.Common.{◌≡◌, ◌++◌, ◌-◌, take, replicate}
use Rattle.cacheability.proofs.name.filled.Given as goal

abbrev pub invariant-bytes : goal.invariant-bytes
invariant-bytes l = l.buf ≡ take l.i l.bytes ++ replicate (64 - l.i) 0
