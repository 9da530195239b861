-- What a test of each member and the next tells of the names of all.
use Rattle.std.proofs.Common.{◌≡◌, ◌↔◌, ◌+◌, ◌<◌, ℕ, List, [], ◌∷◌, Bool, true, false, IsTrue, length, get_or, map, refl, sym, ◌∙◌, ap, arith}
use Rattle.std.proofs.Math.ListN.{get_or-map, length-map}
use Rattle.std.proofs.lemmas.Map.Keys.{sorted_from_all_adjacent, Less-from_sorted}
use Rattle.std.specs.Cmp.Lexicographic.{slice_cmp, nat_list_cmp_total}
use Rattle.std.specs.List.{IsAllAdjacentAnswer}
use Rattle.std.specs.List.Sorted.{IsStrictlySortedBy}
use Rattle.std.specs.Ordering.{nat_cmp, is_lt}
use Rattle.std.specs.declared.cmp.Ordering.{Ordering}
use Rattle.std.specs.declared.cmp.Ordering.TheVariants.{Less, Equal, Greater}

less : (o : Ordering) → true ≡ is_lt o → o ≡ Less
less Less h = refl
less Equal h = cc
less Greater h = cc

abbrev Ascend : {X : Type 0} → (X → List ℕ) → List X → Type 0
Ascend name xs = IsStrictlySortedBy (slice_cmp nat_cmp) (map name xs)

to_names : {X : Type 0} (name : X → List ℕ) (xs : List X) (k : ℕ) (d : X)
    → slice_cmp nat_cmp (name (get_or xs k d)) (name (get_or xs (k + 1) d)) ≡ slice_cmp nat_cmp (get_or (map name xs) k (name d)) (get_or (map name xs) (k + 1) (name d))
to_names name xs k d = rw (get_or-map name xs k d, get_or-map name xs (k + 1) d) refl

ascending : {X : Type 0} (name : X → List ℕ) (xs : List X) (d : X)
    → ((k : ℕ) → k + 1 < length xs → true ≡ is_lt (slice_cmp nat_cmp (name (get_or xs k d)) (name (get_or xs (k + 1) d)))) → Ascend name xs
ascending name xs d h =
    sorted_from_all_adjacent nat_list_cmp_total (map name xs) (name d)
    (λ k below. sym (to_names name xs k d) ∙ less _ (h k (omega (arith, length-map xs name))))

descent : {X : Type 0} (name : X → List ℕ) (xs : List X) (k : ℕ) (d : X) → k + 1 < length xs
    → false ≡ is_lt (slice_cmp nat_cmp (name (get_or xs k d)) (name (get_or xs (k + 1) d))) → Ascend name xs → ⊥
descent name xs k d below h sorted =
    let up : is_lt (slice_cmp nat_cmp (name (get_or xs k d)) (name (get_or xs (k + 1) d))) ≡ true =
    ap is_lt (to_names name xs k d ∙ Less-from_sorted (slice_cmp nat_cmp) (map name xs) k (k + 1) (name d) sorted (omega arith) (omega (arith, length-map xs name))) in
    cc

pub ascends : {X : Type 0} (name : X → List ℕ) (xs : List X) (r : Bool)
    → IsAllAdjacentAnswer (λ x y b. b ≡ is_lt (slice_cmp nat_cmp (name x) (name y))) xs r → IsTrue r ↔ Ascend name xs
unfolding IsStrictlySortedBy
ascends name [] true h = (λ _. tt, λ _. refl)
ascends name [] false (k, below, h) = absurd (omega arith)
ascends name (x ∷ xs) true h = (λ _. ascending name (x ∷ xs) x (λ k below. h k x below), λ _. refl)
ascends name (x ∷ xs) false (k, below, h) = (λ e. cc, λ sorted. absurd (descent name (x ∷ xs) k x below (h x) sorted))
