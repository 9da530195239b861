use Rattle.std.proofs.Common.{◌≡◌, false}
use Rattle.tests_doors.proofs.lobby.one_beside_deaf.Given as goal

abbrev pub invariant-asks : goal.invariant-asks
invariant-asks l = l.door.is_out ≡ false
