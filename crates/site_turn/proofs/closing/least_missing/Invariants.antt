use Rattle.std.proofs.Common.{◌≡◌, ◌<◌, ℕ, true}
use Rattle.site_turn.specs.Closing.{has_number}
use Rattle.site_turn.proofs.closing.least_missing.Given as goal

abbrev pub invariant-numbers : goal.invariant-numbers
invariant-numbers l = (number : ℕ) → number < l.number → has_number number l.passes ≡ true
