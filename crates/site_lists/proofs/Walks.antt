-- What a walk down from a term comes to is what stands within it: each step down is one of a chain that goes up.
use Rattle.std.proofs.Common.{◌≡◌, ◌∙◌, ℕ, zero, suc, List, [], ◌∷◌, false, refl, ap}
use Rattle.std.proofs.Math.Path.{fun_ext}
use Rattle.std.specs.Prelude.{Bool, ◌||◌, ◌==◌, Option, Some, None}
use Rattle.std.specs.List.{flat_map, list_any}
use Rattle.std.specs.Option.{option_map_or}
use Rattle.std.proofs.lemmas.List.Folds.{list_any-append}
use Rattle.content_state.specs.Chain.{Up, chain, goes_on, is_within}
use Rattle.site_lists.specs.Below.{below}
use Rattle.site_lists.proofs.Ranks.{any_never, any_or}

-- ---- tests of two lists

pub any_swap : {X Y : Type 0} (p : X → Y → Bool) (xs : List X) (ys : List Y) → list_any (λ x. list_any (p x) ys) xs ≡ list_any (λ y. list_any (λ x. p x y) xs) ys
any_swap p [] ys = any_never ys
any_swap p (x ∷ xs) ys = ap (λ b. list_any (p x) ys || b) (any_swap p xs ys) ∙ any_or (p x) (λ y. list_any (λ z. p z y) xs) ys

pub any_of_all : {X Y : Type 0} (t : Y → Bool) (f : X → List Y) (xs : List X) → list_any t (flat_map f xs) ≡ list_any (λ x. list_any t (f x)) xs
any_of_all t f [] = refl
any_of_all t f (x ∷ xs) = list_any-append t (f x) (flat_map f xs) ∙ ap (λ b. list_any t (f x) || b) (any_of_all t f xs)

-- ---- down and up

-- the row above is this one
abbrev pub is_below : ℕ → Option ℕ → Bool
is_below top above = option_map_or (λ a. a == top) above false

module _ (up : Up) (top : ℕ) where
  -- one of a chain stands right below where one above the first is
  last_step : (n k : ℕ) → list_any (λ j. is_below top (up j)) (chain up n k) ≡ list_any (λ j. j == top) (goes_on (chain up n) (up k))
  unfolding chain
  last_step zero k = elim (up k) as (λ o. false ≡ list_any (λ j. j == top) (goes_on (chain up zero) o)) [ None ↦ refl | Some a ↦ refl ]
  last_step (suc n) k = elim (up k) as (λ o. (is_below top o || list_any (λ j. is_below top (up j)) (goes_on (chain up n) o)) ≡ list_any (λ j. j == top) (goes_on (chain up (suc n)) o)) [
    | None ↦ refl
    | Some a ↦ ap (λ b. (a == top) || b) (last_step n a)
  ]

module _ (up : Up) (children : ℕ → List ℕ) (are : (top j : ℕ) → list_any (λ c. j == c) (children top) ≡ is_below top (up j)) where
  pub below_within : (n top k : ℕ) → list_any (λ c. k == c) (below children n top) ≡ is_within up n top k
  unfolding chain
  below_within zero top k = refl
  below_within (suc n) top k =
      ap (λ b. (k == top) || b) (
      any_of_all (λ c. k == c) (below children n) (children top)
      ∙ ap (λ (f : ℕ → Bool). list_any f (children top)) (fun_ext (λ c. below_within n c k))
      ∙ any_swap (λ c j. j == c) (children top) (chain up n k)
      ∙ ap (λ (f : ℕ → Bool). list_any f (chain up n k)) (fun_ext (λ j. are top j))
      ∙ last_step up top n k)
