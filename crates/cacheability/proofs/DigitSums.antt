-- The sum of the bytes of a number in decimal.
use Rattle.std.proofs.Common.{ℕ, zero, suc, ◌+◌, ◌*◌, ◌/◌, ◌%◌, ◌^◌, ◌<◌, ◌≤◌, ◌≡◌, ◌∙◌, ap, arith, inl, inr}
use Rattle.std.specs.List.{sum}
use Rattle.std.proofs.lemmas.List.Sums.{sum_by_push}
use Rattle.std.proofs.Math.Nat.{pow-succ'}
use Rattle.cacheability.specs.Decimal.{decimal}
use Rattle.cacheability.proofs.Digits.{either, decimal-small, decimal-large}

pub sum-small : (n : ℕ) → n < 10 → sum (decimal n) ≡ 48 + n
sum-small n h = ap sum (decimal-small n h) ∙ omega (arith, h)

pub sum-large : (n : ℕ) → 10 ≤ n → sum (decimal n) ≡ sum (decimal (n / 10)) + (48 + n % 10)
sum-large n h = ap sum (decimal-large n h) ∙ sum_by_push (λ x. x) (decimal (n / 10)) (48 + n % 10)

-- no digit is more than 57
pub sum-le : (k n : ℕ) → n < 10 ^ suc k → sum (decimal n) ≤ suc k * 57
sum-le zero n h = omega (arith, sum-small n (omega (arith, h)))
sum-le (suc k) n h =
    elim (either n) as (λ _. sum (decimal n) ≤ suc (suc k) * 57) [
      | inl small ↦ omega (arith, sum-small n small)
      | inr large ↦ omega (arith, sum-large n large, sum-le k (n / 10) (omega (arith, pow-succ' 10 (suc k), h)))
    ]
