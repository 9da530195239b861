-- The test that each text is there once.
use Rattle.std.proofs.Common.{◌≡◌, ◌↔◌, ℕ, List, [], ◌∷◌, Bool, true, false, not, IsTrue, refl}
use Rattle.std.specs.List.{list_any, AllByRecursion, IsDistinct}
use Rattle.std.specs.Str.{bytes_eq}
use Rattle.std.proofs.lemmas.Bool.{and_parts, or_parts}
use Rattle.std.proofs.lemmas.Map.Keys.{IsDistinct-head, IsDistinct-tail, IsDistinct-cons}
use Rattle.row_json.specs.Whole.{are_distinct}

not_false : (b : Bool) → not b ≡ true → b ≡ false
not_false true h = cc
not_false false h = refl

none_has : (t : List ℕ) (ts : List (List ℕ)) → list_any (bytes_eq t) ts ≡ false → AllByRecursion (λ z. bytes_eq t z ≡ false) ts
none_has t [] h = tt
none_has t (y ∷ ys) h = let both = or_parts (bytes_eq t y) (list_any (bytes_eq t) ys) h in (both.0, none_has t ys both.1)

has_none : (t : List ℕ) (ts : List (List ℕ)) → AllByRecursion (λ z. bytes_eq t z ≡ false) ts → list_any (bytes_eq t) ts ≡ false
has_none t [] h = refl
has_none t (y ∷ ys) h = rw h.0 (has_none t ys h.1)

pub distinct : (ts : List (List ℕ)) → are_distinct ts ≡ true → IsDistinct bytes_eq ts
unfolding IsDistinct
distinct [] h = tt
distinct (t ∷ ts) h =
    let both = and_parts (not (list_any (bytes_eq t) ts)) (are_distinct ts) h in
    IsDistinct-cons bytes_eq t ts (none_has t ts (not_false (list_any (bytes_eq t) ts) both.0)) (distinct ts both.1)

pub tests_distinct : (ts : List (List ℕ)) → IsDistinct bytes_eq ts → are_distinct ts ≡ true
tests_distinct [] d = refl
tests_distinct (t ∷ ts) d = rw (has_none t ts (IsDistinct-head bytes_eq t ts d), tests_distinct ts (IsDistinct-tail bytes_eq t ts d)) refl

same_answer : (a b : Bool) (P : Type 0) → IsTrue a ↔ P → (b ≡ true → P) → (P → b ≡ true) → a ≡ b
same_answer true true P a f g = refl
same_answer false false P a f g = refl
same_answer true false P a f g = let h = g (a.0 refl) in absurd cc
same_answer false true P a f g = let h = a.1 (f refl) in absurd cc

-- an exact answer is that of the test
pub answers : (a : Bool) (ts : List (List ℕ)) → IsTrue a ↔ IsDistinct bytes_eq ts → a ≡ are_distinct ts
answers a ts h = same_answer a (are_distinct ts) (IsDistinct bytes_eq ts) h (distinct ts) (tests_distinct ts)
