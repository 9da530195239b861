use Rattle.std.proofs.Common.{◌≡◌, ◌≤◌, ◌-◌, length, take}
use Rattle.html_out.specs.Escape.{escaped}
use Rattle.html_out.proofs.escaping.plain_front.Given as goal

abbrev pub invariant-bytes : goal.invariant-bytes
invariant-bytes l = (l.n ≤ length l.text) × (escaped (take l.n l.text) ≡ take l.n l.text)

abbrev pub decreases-bytes : goal.decreases-bytes
decreases-bytes l = length l.text - l.n
