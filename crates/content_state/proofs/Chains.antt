-- Chains of parents: which of them stay, and how a walk goes along one.
use Rattle.std.proofs.Common.{◌≡◌, ◌∙◌, ◌+◌, ◌-◌, ◌<◌, ℕ, zero, suc, [], ◌∷◌, Bool, true, false, Option, Some, None, refl, ap, arith, length}
use Rattle.std.specs.Prelude.{nat_lt, ◌==◌, ◌||◌}
use Rattle.std.specs.List.{list_any}
use native.Mathlib.Numerals.{unary_clauses}
use Rattle.std.proofs.lemmas.Bool.{lt-ltb, le-ltb, ltb-true, ltb-false, eq-eqb, ne_eqb}
use Rattle.content_state.specs.Chain.{Up, goes_on, chain, is_longer, is_within, ChainsStay}

pub chains_stay : ChainsStay
unfolding chain
chains_stay up up' stays same closed zero k is = refl
chains_stay up up' stays same closed (suc more) k is =
    ap (λ o. k ∷ goes_on (chain up' more) o) (same k is)
    ∙ ap (λ l. k ∷ l) (on (up k) refl (λ above e. chains_stay up up' stays same closed more above (closed k above is e)))
  where
    on : (o : Option ℕ) → up k ≡ o → ((above : ℕ) → up k ≡ Some above → chain up' more above ≡ chain up more above) → goes_on (chain up' more) o ≡ goes_on (chain up more) o
    on None e rest = refl
    on (Some above) e rest = rest above e

-- ---- a walk along a chain

step : (up : Up) (n k : ℕ) → ¬ (n ≡ 0) → chain up n k ≡ k ∷ goes_on (chain up (n - 1)) (up k)
unfolding chain
step up zero k some = absurd (some refl)
step up (suc more) k some = simp unary_clauses refl

pub ended : (up : Up) (n k : ℕ) → ¬ (n ≡ 0) → up k ≡ None → chain up n k ≡ k ∷ []
ended up n k some top = step up n k some ∙ ap (λ o. k ∷ goes_on (chain up (n - 1)) o) top

pub goes_up : (up : Up) (n k above : ℕ) → ¬ (n ≡ 0) → up k ≡ Some above → chain up n k ≡ k ∷ chain up (n - 1) above
goes_up up n k above some is = step up n k some ∙ ap (λ o. k ∷ goes_on (chain up (n - 1)) o) is

pub spent : (up : Up) (n k : ℕ) → n ≡ 0 → chain up n k ≡ []
unfolding chain
spent up zero k e = refl
spent up (suc more) k e = absurd (omega arith)

-- ---- whether a chain is longer than so many: as many as were gone past, and those that are left

module _ (up : Up) (most k : ℕ) where
  abbrev pub Gone : ℕ → ℕ → Type 0
  Gone n at = length (chain up (suc most) k) ≡ n + length (chain up (suc most - n) at)

  pub at_top : (n at : ℕ) → Gone n at → n < most → up at ≡ None → is_longer up most k ≡ false
  at_top n at gone below top =
      let left : length (chain up (suc most - n) at) ≡ 1 = ap length (ended up (suc most - n) at (λ e. omega arith) top) in
      le-ltb most (length (chain up (suc most) k)) (omega arith)

  pub one_up : (n at above : ℕ) → Gone n at → n < most → up at ≡ Some above → Gone (n + 1) above
  one_up n at above gone below is =
      let left : length (chain up (suc most - n) at) ≡ suc (length (chain up (suc most - n - 1) above)) = ap length (goes_up up (suc most - n) at above (λ e. omega arith) is) in
      let same : suc most - n - 1 ≡ suc most - (n + 1) = omega arith in
      gone ∙ ap (λ l. n + l) left ∙ ap (λ m. n + suc (length (chain up m above))) same ∙ omega arith

  pub goes_past : (n at : ℕ) → Gone n at → n ≡ most → is_longer up most k ≡ true
  goes_past n at gone all =
      let left : length (chain up (suc most - n) at) ≡ suc (length (goes_on (chain up (suc most - n - 1)) (up at))) = ap length (step up (suc most - n) at (λ e. omega arith)) in
      lt-ltb most (length (chain up (suc most) k)) (omega arith)

one_less : (a b : ℕ) → nat_lt (suc a) (suc b) ≡ nat_lt a b
one_less a b = on (nat_lt a b) refl
  where
    on : (c : Bool) → nat_lt a b ≡ c → nat_lt (suc a) (suc b) ≡ c
    on true e = let below = ltb-true a b e in lt-ltb (suc a) (suc b) (omega arith)
    on false e = let not_below = ltb-false a b e in le-ltb (suc a) (suc b) (omega arith)

-- one more than so many: the one above has more than so many
pub longer_above : (up : Up) (all k above : ℕ) → up k ≡ Some above → is_longer up (suc all) k ≡ is_longer up all above
unfolding chain
longer_above up all k above is = first_up ∙ one_less all (length (chain up (suc all) above))
  where
    first_up : is_longer up (suc all) k ≡ nat_lt (suc all) (suc (length (chain up (suc all) above)))
    first_up = ap (λ o. nat_lt (suc all) (suc (length (goes_on (chain up (suc all)) o)))) is

pub not_longer : (up : Up) (all k : ℕ) → up k ≡ None → is_longer up (suc all) k ≡ false
unfolding chain
not_longer up all k top = ap (λ l. nat_lt (suc all) (length l)) (ended up (suc (suc all)) k (λ e. omega arith) top) ∙ le-ltb (suc all) 1 (omega arith)

-- ---- whether a row is within: what is left of the walk decides as the whole walk does

module _ (up : Up) (top : ℕ) where
  pub found_here : (n at : ℕ) → ¬ (n ≡ 0) → at ≡ top → is_within up n top at ≡ true
  found_here n at some is = ap (list_any (λ j. j == top)) (step up n at some) ∙ ap (λ b. b || list_any (λ j. j == top) (goes_on (chain up (n - 1)) (up at))) (eq-eqb at top is)

  pub not_above : (n at : ℕ) → ¬ (n ≡ 0) → ¬ (at ≡ top) → up at ≡ None → is_within up n top at ≡ false
  not_above n at some other none = ap (list_any (λ j. j == top)) (ended up n at some none) ∙ ap (λ b. b || false) (ne_eqb at top other)

  pub looks_above : (n at above : ℕ) → ¬ (n ≡ 0) → ¬ (at ≡ top) → up at ≡ Some above → is_within up n top at ≡ is_within up (n - 1) top above
  looks_above n at above some other is = ap (list_any (λ j. j == top)) (goes_up up n at above some is) ∙ ap (λ b. b || is_within up (n - 1) top above) (ne_eqb at top other)

  pub not_found : (n at : ℕ) → n ≡ 0 → is_within up n top at ≡ false
  not_found n at none = ap (list_any (λ j. j == top)) (spent up n at none)
