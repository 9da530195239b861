use Rattle.std.proofs.Common.{◌≡◌}
use Rattle.site_doors.proofs.lobby.Lobby.next_of_round.Given as goal

abbrev pub invariant-round : goal.invariant-round
invariant-round g l = l.self.guests.in_hand ≡ 0
