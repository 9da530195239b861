use Rattle.std.proofs.Common.{◌≡◌}
use Rattle.drill_input.specs.Asked.{asked}
use Rattle.drill_input.proofs.asked.requests_after.Given as goal

abbrev pub invariant-requests : goal.invariant-requests
invariant-requests l = l.requests ≡ asked l._index l.fn.draws
