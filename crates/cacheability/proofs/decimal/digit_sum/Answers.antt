use Rattle.std.proofs.Common.{ℕ, ◌<◌, ◌≤◌, ◌^◌, arith}
use Rattle.std.specs.List.{sum}
use Rattle.cacheability.specs.Decimal.{decimal}
use Rattle.cacheability.proofs.DigitSums.{sum-small, sum-large, sum-le}
use Rattle.cacheability.proofs.decimal.digit_sum.Goals as goal

small : (n : ℕ) → n < 2 ^ 32 → sum (decimal n) ≤ 570
small n h = sum-le 9 n (omega (arith, h))

pub overflow_add-total-in-digits : goal.overflow_add-total-in-digits
overflow_add-total-in-digits c = omega (arith, c.digits.invariant, sum-large c.digits.rest c.digits-test.true, small c.args.number c.ranges.number.fits)

pub digits-preserved : goal.digits-preserved
digits-preserved c = omega (arith, c.digits.invariant, sum-large c.digits.rest c.digits-test.true)

pub overflow_add-result : goal.overflow_add-result
overflow_add-result c = omega (arith, c.digits.invariant, sum-small c.digits.rest c.digits-test.false, small c.args.number c.ranges.number.fits)

pub overflow_add-result-2 : goal.overflow_add-result-2
overflow_add-result-2 c = omega (arith, c.digits.invariant, sum-small c.digits.rest c.digits-test.false, small c.args.number c.ranges.number.fits)

pub returns-clause-exact : goal.returns-clause-exact
returns-clause-exact c = omega (arith, c.digits.invariant, sum-small c.digits.rest c.digits-test.false)

pub returns-clause-small : goal.returns-clause-small
returns-clause-small c = omega (arith, c.digits.invariant, sum-small c.digits.rest c.digits-test.false, small c.args.number c.ranges.number.fits)
