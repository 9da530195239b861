use Rattle.std.proofs.Common.{◌≡◌}
use Rattle.site_doors.proofs.lobby.Lobby.next_of_all.Given as goal

abbrev pub invariant-waits : goal.invariant-waits
invariant-waits g l = l.self.guests.in_hand ≡ 0
