use Rattle.std.proofs.Common.{◌≡◌, ◌+◌}
use Rattle.std.specs.List.{sum}
use Rattle.cacheability.specs.Decimal.{decimal}
use Rattle.cacheability.proofs.decimal.digit_sum.Given as goal

-- what was counted, and what the digits before it sum to, are the whole
abbrev pub invariant-digits : goal.invariant-digits
invariant-digits l = l.total + sum (decimal l.rest) ≡ sum (decimal l.number)

abbrev pub decreases-digits : goal.decreases-digits
decreases-digits l = l.rest
