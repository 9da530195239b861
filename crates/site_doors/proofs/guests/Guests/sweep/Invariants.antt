use Rattle.std.proofs.Common.{◌≡◌}
use Rattle.site_doors.proofs.guests.Guests.sweep.Given as goal

abbrev pub invariant-keys : goal.invariant-keys
invariant-keys g l = l.self.in_hand ≡ l.fn.self.in_hand
