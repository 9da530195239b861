-- The first that passes, sought among those alone that pass another test.
use Rattle.std.proofs.Common.{List, [], ◌∷◌, ◌≡◌, ◌∙◌, refl, sym, Bool, true, false, Option, Some, None, true≢false}
use Rattle.std.specs.Prelude.{cond, ◌&&◌}
use Rattle.std.specs.List.{filter, filter_map, cons_option, find}

module _ {A : Type 0} (p q : A → Bool) where
  -- the first that passes two tests, among those that pass one of them
  pub find_both : (xs : List A) → find (λ x. p x && q x) xs ≡ find p (filter q xs)
  find_both [] = refl
  find_both (x ∷ xs) = by_tests (p x) (q x) refl (find_both xs)
    where
      by_tests : (a b : Bool) → p x ≡ a → find (λ y. p y && q y) xs ≡ find p (filter q xs)
          → cond (a && b) (Some x) (find (λ y. p y && q y) xs) ≡ find p (cond b (x ∷ filter q xs) (filter q xs))
      by_tests true true is rest = rw is refl
      by_tests false true is rest = rw is rest
      by_tests true false is rest = rest
      by_tests false false is rest = rest

  -- where what passes one test passes the other, the first is the first of those that pass the other
  pub find_within : ((x : A) → p x ≡ true → q x ≡ true) → (xs : List A) → find p (filter q xs) ≡ find p xs
  find_within implied [] = refl
  find_within implied (x ∷ xs) = by_tests (p x) (q x) refl refl (find_within implied xs)
    where
      by_tests : (a b : Bool) → p x ≡ a → q x ≡ b → find p (filter q xs) ≡ find p xs
          → find p (cond b (x ∷ filter q xs) (filter q xs)) ≡ cond a (Some x) (find p xs)
      by_tests true true is other rest = rw is refl
      by_tests false true is other rest = rw is rest
      by_tests true false is other rest = absurd (true≢false (sym (implied x is) ∙ other))
      by_tests false false is other rest = rest

module _ {A B : Type 0} (f : A → Option B) (p : B → Bool) (q : A → Bool) where
  -- the same of what is read off those that pass the other
  pub find_read_within : ((x : A) (y : B) → f x ≡ Some y → p y ≡ true → q x ≡ true) → (xs : List A)
      → find p (filter_map f (filter q xs)) ≡ find p (filter_map f xs)
  find_read_within implied [] = refl
  find_read_within implied (x ∷ xs) = by_test (q x) refl (f x) refl (find_read_within implied xs)
    where
      left_out : (y : B) (a : Bool) → p y ≡ a → f x ≡ Some y → q x ≡ false → find p (filter_map f (filter q xs)) ≡ find p (filter_map f xs)
          → find p (filter_map f (filter q xs)) ≡ cond a (Some y) (find p (filter_map f xs))
      left_out y true is read other rest = absurd (true≢false (sym (implied x y read is) ∙ other))
      left_out y false is read other rest = rest

      by_test : (b : Bool) → q x ≡ b → (o : Option B) → f x ≡ o → find p (filter_map f (filter q xs)) ≡ find p (filter_map f xs)
          → find p (filter_map f (cond b (x ∷ filter q xs) (filter q xs))) ≡ find p (cons_option o (filter_map f xs))
      by_test true other None read rest = rw read rest
      by_test true other (Some y) read rest = rw (read, rest) refl
      by_test false other None read rest = rest
      by_test false other (Some y) read rest = left_out y (p y) refl read other rest

module _ {A : Type 0} (p : A → Bool) where
  -- the first of those that pass
  pub first_of_passing : (xs : List A) → find (λ _. true) (filter p xs) ≡ find p xs
  first_of_passing [] = refl
  first_of_passing (x ∷ xs) = by_test (p x) (first_of_passing xs)
    where
      by_test : (a : Bool) → find (λ _. true) (filter p xs) ≡ find p xs
          → find (λ _. true) (cond a (x ∷ filter p xs) (filter p xs)) ≡ cond a (Some x) (find p xs)
      by_test true rest = refl
      by_test false rest = rest

  pub first_passing : (xs : List A) (x : A) (rest : List A) → filter p xs ≡ x ∷ rest → find p xs ≡ Some x
  first_passing xs x rest is = sym (first_of_passing xs) ∙ rw is refl

  pub none_passing : (xs : List A) → filter p xs ≡ [] → find p xs ≡ None
  none_passing xs is = sym (first_of_passing xs) ∙ rw is refl
