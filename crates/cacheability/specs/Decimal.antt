-- Numbers in decimal.
use Rattle.std.specs.Prelude.{ℕ, zero, suc, List, [], ◌∷◌, ◌++◌, ◌+◌, ◌/◌, ◌%◌, nat_lt, true, false}

-- the last `digits` digits of a number, its leading zeros left out
unfoldable pub last_digits : ℕ → ℕ → List ℕ
last_digits zero n = []
last_digits (suc digits) n = elim (nat_lt n 10) [ true ↦ (48 + n) ∷ [] | false ↦ last_digits digits (n / 10) ++ (48 + n % 10) ∷ [] ]

-- a number in decimal: it has no more digits than itself and one
unfoldable pub decimal : ℕ → List ℕ
decimal n = last_digits (suc n) n
