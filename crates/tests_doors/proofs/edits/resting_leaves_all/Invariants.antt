use Rattle.std.proofs.Common.{◌≡◌, false}
use Rattle.tests_doors.proofs.edits.resting_leaves_all.Given as goal

abbrev pub invariant-edits : goal.invariant-edits
invariant-edits l = l.home.is_out ≡ false
