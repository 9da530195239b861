use Rattle.std.proofs.Common.{◌≡◌, ◌++◌, ◌≤◌, ◌-◌, length, take}
use Rattle.html_out.specs.Escape.{escaped}
use Rattle.html_out.proofs.escaping.add_escaped.Given as goal

abbrev pub invariant-runs : goal.invariant-runs
invariant-runs l = (l.done ≤ length l.text) × (l.out.items ≡ l.fn.out.items ++ escaped (take l.done l.text))

abbrev pub decreases-runs : goal.decreases-runs
decreases-runs l = length l.text - l.done
