use Rattle.std.proofs.Common.{◌≡◌, ◌≤◌, ◌*◌, take}
use Rattle.std.specs.List.{sum}
use Rattle.cacheability.proofs.name.sum_of.Given as goal

abbrev pub invariant-bytes : goal.invariant-bytes
invariant-bytes l = (l.total ≡ sum (take l.byte-index l.bytes)) × (l.total ≤ l.byte-index * 255)
