use Rattle.std.proofs.Common.{◌≡◌, ◌≢◌}
use Rattle.site_table.proofs.turns.take_desk.Given as goal

abbrev pub invariant-tries : goal.invariant-tries
invariant-tries g l = (l.seat.table_id ≡ l.initial.seat.table_id) × (l.seat.me ≡ l.initial.seat.me) × (l.gate ≢ 0)
