-- How many members of a list pass a test, with one more at the end.
use Rattle.std.proofs.Common.{◌≡◌, ◌∙◌, ◌++◌, ◌+◌, List, [], ◌∷◌, ℕ, Bool, true, false, length, ap, refl, arith, length-append}
use Rattle.std.specs.List.{count_by, filter}
use Rattle.std.proofs.lemmas.List.Elements.{filter-append}
use Rattle.std.proofs.lemmas.List.Sums.{length-filter}

parts : {X : Type 0} (p : X → Bool) (xs : List X) (x : X) → count_by p (xs ++ x ∷ []) ≡ count_by p xs + count_by p (x ∷ [])
parts {X} p xs x =
    let whole = length-filter p (xs ++ x ∷ []) in
    let front = length-filter p xs in
    let last = length-filter p (x ∷ []) in
    let apart : length (filter p (xs ++ x ∷ [])) ≡ length (filter p xs) + length (filter p (x ∷ [])) = ap (λ (l : List X). length l) (filter-append p xs (x ∷ [])) ∙ length-append (filter p xs) (filter p (x ∷ [])) in
    omega arith

one_yes : {X : Type 0} (p : X → Bool) (x : X) → p x ≡ true → count_by p (x ∷ []) ≡ 1
one_yes p x passes = rw passes refl

one_no : {X : Type 0} (p : X → Bool) (x : X) → p x ≡ false → count_by p (x ∷ []) ≡ 0
one_no p x fails = rw fails refl

pub count_yes : {X : Type 0} (p : X → Bool) (xs : List X) (x : X) → p x ≡ true → count_by p (xs ++ x ∷ []) ≡ count_by p xs + 1
count_yes p xs x passes = parts p xs x ∙ ap (λ (n : ℕ). count_by p xs + n) (one_yes p x passes)

pub count_no : {X : Type 0} (p : X → Bool) (xs : List X) (x : X) → p x ≡ false → count_by p (xs ++ x ∷ []) ≡ count_by p xs
count_no p xs x fails =
    let none = one_no p x fails in
    let both = parts p xs x in
    omega arith
