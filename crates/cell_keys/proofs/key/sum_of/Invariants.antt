use Rattle.std.proofs.Common.{◌≡◌, ◌*◌, ◌≤◌, take}
use Rattle.std.specs.Prelude.{sum}
use Rattle.cell_keys.proofs.key.sum_of.Given as goal

-- so far the total is that of the bytes so far, each of which is below 256
abbrev pub invariant-bytes : goal.invariant-bytes
invariant-bytes l = (l.total ≡ sum (take l.byte-index l.bytes)) × (l.total ≤ l.byte-index * 255)
