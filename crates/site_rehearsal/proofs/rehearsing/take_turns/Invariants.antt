use Rattle.site_rehearsal.proofs.Turns.{Under}
use Rattle.site_rehearsal.proofs.rehearsing.take_turns.Given as goal

abbrev pub invariant-loop-turn : goal.invariant-loop-turn
invariant-loop-turn g l = Under l.fn.turns l.turn-index l.fn.hall l.replies.items l.hall l.seats
