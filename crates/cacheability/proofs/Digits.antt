-- Numbers in decimal: how one goes on, how long it is, and that it can be read back.
use Rattle.std.proofs.Common.{ℕ, zero, suc, List, [], ◌∷◌, ◌++◌, ◌+◌, ◌-◌, ◌*◌, ◌/◌, ◌%◌, ◌^◌, ◌<◌, ◌≤◌, ◌≡◌, length, refl, sym, ◌∙◌, ap, arith, inl, inr, ◌⊎◌, length-append}
use Rattle.std.proofs.lemmas.Bool.{lt-ltb, le-ltb, ltb-true, ltb-false}
use Rattle.std.specs.Prelude.{nat_lt, Bool, true, false}
use Rattle.std.proofs.Math.Nat.{pow-succ'}
use Rattle.cacheability.specs.Decimal.{last_digits, decimal}

-- a number of one digit
one_digit : (digits n : ℕ) → n < 10 → last_digits (suc digits) n ≡ (48 + n) ∷ []
unfolding last_digits
one_digit digits n h = rw (lt-ltb n 10 h, last_digits) refl

-- a number of more
more_digits : (digits n : ℕ) → 10 ≤ n → last_digits (suc digits) n ≡ last_digits digits (n / 10) ++ (48 + n % 10) ∷ []
unfolding last_digits
more_digits digits n h = rw (le-ltb n 10 h, last_digits) refl

pub below : (n k : ℕ) → (n < k) ⊎ (k ≤ n)
below n k = go (nat_lt n k) refl
  where
    go : (b : Bool) → b ≡ nat_lt n k → (n < k) ⊎ (k ≤ n)
    go true e = inl (ltb-true n k (sym e))
    go false e = inr (ltb-false n k (sym e))

pub either : (n : ℕ) → (n < 10) ⊎ (10 ≤ n)
either n = below n 10

-- what room there is past the digits doesn't matter
same_digits : (f g n : ℕ) → n ≤ f → n ≤ g → last_digits (suc f) n ≡ last_digits (suc g) n
same_digits zero zero n a b = refl
same_digits zero (suc g) n a b = one_digit zero n (omega arith) ∙ sym (one_digit (suc g) n (omega arith))
same_digits (suc f) zero n a b = one_digit (suc f) n (omega arith) ∙ sym (one_digit zero n (omega arith))
same_digits (suc f) (suc g) n a b =
    elim (either n) as (λ _. last_digits (suc (suc f)) n ≡ last_digits (suc (suc g)) n) [
      | inl small ↦ one_digit (suc f) n small ∙ sym (one_digit (suc g) n small)
      | inr large ↦ more_digits (suc f) n large ∙ ap (λ xs. xs ++ (48 + n % 10) ∷ []) (same_digits f g (n / 10) (omega arith) (omega arith)) ∙ sym (more_digits (suc g) n large)
    ]

pub decimal-small : (n : ℕ) → n < 10 → decimal n ≡ (48 + n % 10) ∷ []
unfolding decimal
decimal-small n h =
    let last : n ≡ n % 10 = omega arith in
    one_digit n n h ∙ ap (λ d. (48 + d) ∷ []) last

pub decimal-large : (n : ℕ) → 10 ≤ n → decimal n ≡ decimal (n / 10) ++ (48 + n % 10) ∷ []
unfolding decimal
decimal-large zero h = absurd (omega arith)
decimal-large (suc m) h =
    more_digits (suc m) (suc m) h ∙ ap (λ xs. xs ++ (48 + suc m % 10) ∷ []) (same_digits m (suc m / 10) (suc m / 10) (omega arith) (omega arith))

-- a number below 10 ^ (k + 1) has at most k + 1 digits
pub length-decimal : (k n : ℕ) → n < 10 ^ suc k → length (decimal n) ≤ suc k
length-decimal zero n h = rw (decimal-small n (omega arith)) (omega arith)
length-decimal (suc k) n h =
    elim (either n) as (λ _. length (decimal n) ≤ suc (suc k)) [
      | inl small ↦ rw (decimal-small n small) (omega arith)
      | inr large ↦
          let bound : n / 10 < 10 ^ suc k = omega (arith, pow-succ' 10 (suc k), h) in
          let shorter : length (decimal (n / 10)) ≤ suc k = length-decimal k (n / 10) bound in
          rw (decimal-large n large, length-append) (omega arith)
    ]

-- the number that digits write
value : ℕ → List ℕ → ℕ
value before [] = before
value before (d ∷ ds) = value (before * 10 + (d - 48)) ds

value-append : (before : ℕ) (xs ys : List ℕ) → value before (xs ++ ys) ≡ value (value before xs) ys
unfolding value
value-append before [] ys = refl
value-append before (x ∷ xs) ys = value-append (before * 10 + (x - 48)) xs ys

value-one : (before d : ℕ) → value before (d ∷ []) ≡ before * 10 + (d - 48)
unfolding value
value-one before d = refl

value-last_digits : (f n : ℕ) → n ≤ f → value 0 (last_digits (suc f) n) ≡ n
value-last_digits zero n h = rw (one_digit zero n (omega arith), value-one) (omega arith)
value-last_digits (suc f) n h =
    elim (either n) as (λ _. value 0 (last_digits (suc (suc f)) n) ≡ n) [
      | inl small ↦ rw (one_digit (suc f) n small, value-one) (omega arith)
      | inr large ↦
          let front : value 0 (last_digits (suc f) (n / 10)) ≡ n / 10 = value-last_digits f (n / 10) (omega arith) in
          rw (more_digits (suc f) n large, value-append, value-one, front) (omega arith)
    ]

-- the number that a text in decimal writes
pub number_of : List ℕ → ℕ
number_of ds = value 0 ds

pub number_of-decimal : (n : ℕ) → number_of (decimal n) ≡ n
unfolding decimal number_of
number_of-decimal n = value-last_digits n n (omega arith)
