use Rattle.std.proofs.Common.{◌≡◌}
use Rattle.site_doors.proofs.lobby.Lobby.end_round.Given as goal

abbrev pub invariant-given : goal.invariant-given
invariant-given g l = l.self.guests.in_hand ≡ 0
