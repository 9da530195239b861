use Rattle.std.proofs.Common.{◌≡◌}
use Rattle.site_doors.proofs.lobby.Lobby.take_home.Given as goal

abbrev pub invariant-sockets : goal.invariant-sockets
invariant-sockets g l = l.self.guests.in_hand ≡ 0
