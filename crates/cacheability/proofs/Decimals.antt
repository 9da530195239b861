-- How the texts of numbers in decimal are ordered.
use Rattle.std.proofs.Common.{ℕ, zero, suc, List, [], ◌∷◌, ◌++◌, ◌+◌, ◌/◌, ◌%◌, ◌^◌, ◌<◌, ◌≤◌, ◌≡◌, length, take, drop, refl, sym, ◌∙◌, ap, arith, inl, inr, ◌⊎◌, length-append}
use Rattle.std.proofs.lemmas.List.{take_all, take-append-drop, take-append-le, length-take-le, length-drop, append-nil}
use Rattle.std.proofs.Math.Nat.{eq-or-lt_of_le, pow-le-pow_right, pow-succ'}
use Rattle.std.specs.Ordering.{nat_cmp, ordering_then, MatchOrdering}
use Rattle.std.specs.declared.cmp.Ordering.{Ordering}
use Rattle.std.specs.declared.cmp.Ordering.TheVariants.{Less, Equal, Greater}
use Rattle.std.specs.Cmp.{nat_cmp_is, ranks}
use Rattle.std.specs.Cmp.Lexicographic.{slice_cmp}
use Rattle.cacheability.specs.Decimal.{decimal}
use Rattle.cacheability.proofs.Digits.{below, either, decimal-small, decimal-large, length-decimal}

pub then_then : (o p q : Ordering) → ordering_then (ordering_then o p) q ≡ ordering_then o (ordering_then p q)
then_then Less p q = refl
then_then Equal p q = refl
then_then Greater p q = refl

-- of two lists that begin as long, the order of the rests is asked where they begin the same
pub slice_cmp-append : (xs ys ls ms : List ℕ) → length xs ≡ length ys → slice_cmp nat_cmp (xs ++ ls) (ys ++ ms) ≡ ordering_then (slice_cmp nat_cmp xs ys) (slice_cmp nat_cmp ls ms)
slice_cmp-append [] [] ls ms h = refl
slice_cmp-append [] (y ∷ ys) ls ms h = absurd (omega (arith, h))
slice_cmp-append (x ∷ xs) [] ls ms h = absurd (omega (arith, h))
slice_cmp-append (x ∷ xs) (y ∷ ys) ls ms h =
    ap (λ o. ordering_then (nat_cmp x y) o) (slice_cmp-append xs ys ls ms (omega (arith, h))) ∙ sym (then_then (nat_cmp x y) (slice_cmp nat_cmp xs ys) (slice_cmp nat_cmp ls ms))

-- the order of numbers is that of what stands before their last digits, and then of these
by_last : (a b : ℕ) → ordering_then (nat_cmp (a / 10) (b / 10)) (ordering_then (nat_cmp (48 + a % 10) (48 + b % 10)) Equal) ≡ nat_cmp a b
by_last a b = go (nat_cmp (a / 10) (b / 10)) (nat_cmp (48 + a % 10) (48 + b % 10)) (ranks (a / 10) (b / 10)) (ranks (48 + a % 10) (48 + b % 10))
  where
    go : (o p : Ordering) → MatchOrdering o (a / 10 < b / 10) (a / 10 ≡ b / 10) (b / 10 < a / 10) → MatchOrdering p (48 + a % 10 < 48 + b % 10) (48 + a % 10 ≡ 48 + b % 10) (48 + b % 10 < 48 + a % 10) → ordering_then o (ordering_then p Equal) ≡ nat_cmp a b
    go Less p h k = nat_cmp_is a b Less (omega (arith, h))
    go Equal Less h k = nat_cmp_is a b Less (omega (arith, h, k))
    go Equal Equal h k = nat_cmp_is a b Equal (omega (arith, h, k))
    go Equal Greater h k = nat_cmp_is a b Greater (omega (arith, h, k))
    go Greater p h k = nat_cmp_is a b Greater (omega (arith, h))

pub one_digit : (n : ℕ) → n < 10 → length (decimal n) ≡ 1
one_digit n h = rw (decimal-small n h) refl

pub more_digits : (n : ℕ) → 10 ≤ n → length (decimal n) ≡ length (decimal (n / 10)) + 1
more_digits n h = rw (decimal-large n h, length-append) refl

pub some_digit : (n : ℕ) → 1 ≤ length (decimal n)
some_digit n =
    elim (either n) as (λ _. 1 ≤ length (decimal n)) [
      | inl small ↦ omega (arith, one_digit n small)
      | inr large ↦ omega (arith, more_digits n large)
    ]

by_fronts : (f a b : ℕ) → (a < 10) ⊎ (10 ≤ a) → (b < 10) ⊎ (10 ≤ b) → a ≤ f → length (decimal a) ≡ length (decimal b) → slice_cmp nat_cmp (decimal a) (decimal b) ≡ nat_cmp a b
by_fronts f a b (inl s) (inl t) h e =
    let first : a / 10 ≡ b / 10 = omega (arith, s, t) in
    rw (decimal-small a s, decimal-small b t) (ap (λ o. ordering_then o (ordering_then (nat_cmp (48 + a % 10) (48 + b % 10)) Equal)) (nat_cmp_is (a / 10) (b / 10) Equal first) ∙ by_last a b)
by_fronts f a b (inl s) (inr t) h e = absurd (omega (arith, e, one_digit a s, more_digits b t, some_digit (b / 10)))
by_fronts f a b (inr s) (inl t) h e = absurd (omega (arith, e, one_digit b t, more_digits a s, some_digit (a / 10)))
by_fronts zero a b (inr s) (inr t) h e = absurd (omega (arith, s, h))
by_fronts (suc f) a b (inr s) (inr t) h e =
    let long : length (decimal (a / 10)) ≡ length (decimal (b / 10)) = omega (arith, e, more_digits a s, more_digits b t) in
    let before : slice_cmp nat_cmp (decimal (a / 10)) (decimal (b / 10)) ≡ nat_cmp (a / 10) (b / 10) = by_fronts f (a / 10) (b / 10) (either (a / 10)) (either (b / 10)) (omega (arith, h, s)) long in
    rw (decimal-large a s, decimal-large b t, slice_cmp-append (decimal (a / 10)) (decimal (b / 10)) ((48 + a % 10) ∷ []) ((48 + b % 10) ∷ []) long, before) (by_last a b)

-- numbers of as many digits are ordered as their texts are
pub as_long : (a b : ℕ) → length (decimal a) ≡ length (decimal b) → nat_cmp a b ≡ slice_cmp nat_cmp (decimal a) (decimal b)
as_long a b e = sym (by_fronts a a b (either a) (either b) (omega arith) e)

-- a number is below the power of ten with as many zeros as it has digits
below_power : (f n : ℕ) → (n < 10) ⊎ (10 ≤ n) → n ≤ f → n < 10 ^ length (decimal n)
below_power f n (inl small) h = rw (one_digit n small) small
below_power zero n (inr large) h = absurd (omega (arith, large, h))
below_power (suc f) n (inr large) h =
    let before : n / 10 < 10 ^ length (decimal (n / 10)) = below_power f (n / 10) (either (n / 10)) (omega (arith, large, h)) in
    let long : length (decimal n) ≡ suc (length (decimal (n / 10))) = omega (arith, more_digits n large) in
    rw long (omega (arith, before, pow-succ' 10 (length (decimal (n / 10)))))

-- it has more digits than a power of ten that it reaches has zeros
more_than : (k n : ℕ) → 10 ^ k ≤ n → k < length (decimal n)
more_than k n h = go (below k (length (decimal n)))
  where
    go : (k < length (decimal n)) ⊎ (length (decimal n) ≤ k) → k < length (decimal n)
    go (inl l) = l
    go (inr l) =
        let reached : 10 ^ length (decimal n) ≤ 10 ^ k = pow-le-pow_right (omega arith) l in
        absurd (omega (arith, reached, h, below_power n n (either n) (omega arith)))

at_most : (k n : ℕ) → 1 ≤ k → n < 10 ^ k → length (decimal n) ≤ k
at_most zero n h l = absurd (omega (arith, h))
at_most (suc k) n h l = length-decimal k n l

-- the power of ten above a number, by those between which it stands
pub power_is : (k n : ℕ) → 10 ^ k ≤ n → n < 10 ^ suc k → 10 ^ suc k ≡ 10 ^ length (decimal n)
power_is k n h l =
    let long : suc k ≡ length (decimal n) = omega (arith, more_than k n h, length-decimal k n l) in
    ap (λ j. 10 ^ j) long

pub not_shorter : (a b : ℕ) → a < b → length (decimal a) ≤ length (decimal b)
not_shorter a b l = at_most (length (decimal b)) a (some_digit b) (omega (arith, l, below_power b b (either b) (omega arith)))

-- a number below the power of ten above another one is not cut
pub cut_whole : (a b : ℕ) → length (decimal a) ≤ length (decimal b) → b < 10 ^ length (decimal a) → nat_cmp a b ≡ slice_cmp nat_cmp (decimal a) (take (length (decimal a)) (decimal b))
cut_whole a b h l =
    let long : length (decimal a) ≡ length (decimal b) = omega (arith, h, at_most (length (decimal a)) b (some_digit a) l) in
    let whole : take (length (decimal a)) (decimal b) ≡ decimal b = take_all (length (decimal a)) (decimal b) (omega (arith, long)) in
    as_long a b long ∙ ap (λ xs. slice_cmp nat_cmp (decimal a) xs) (sym whole)

-- another one is cut as what stands before its last digit is
pub cut_once : (a b : ℕ) → 10 ^ length (decimal a) ≤ b → (b / 10 < b) × (length (decimal a) ≤ length (decimal (b / 10))) × (take (length (decimal a)) (decimal (b / 10)) ≡ take (length (decimal a)) (decimal b))
cut_once a b h = go (either b)
  where
    more : length (decimal a) < length (decimal b)
    more = more_than (length (decimal a)) b h

    go : (b < 10) ⊎ (10 ≤ b) → (b / 10 < b) × (length (decimal a) ≤ length (decimal (b / 10))) × (take (length (decimal a)) (decimal (b / 10)) ≡ take (length (decimal a)) (decimal b))
    go (inl small) = absurd (omega (arith, some_digit a, more, one_digit b small))
    go (inr large) =
        let long : length (decimal a) ≤ length (decimal (b / 10)) = omega (arith, more, more_digits b large) in
        let cut : take (length (decimal a)) (decimal (b / 10) ++ (48 + b % 10) ∷ []) ≡ take (length (decimal a)) (decimal (b / 10)) = take-append-le (length (decimal a)) (decimal (b / 10)) ((48 + b % 10) ∷ []) long in
        (omega (arith, large), long, sym cut ∙ ap (λ xs. take (length (decimal a)) xs) (sym (decimal-large b large)))

-- a number is ordered to a greater one as to this one cut to as many digits, and is before it where they are the same
pub to_cut : (a b : ℕ) → a < b → ordering_then (slice_cmp nat_cmp (decimal a) (take (length (decimal a)) (decimal b))) Less ≡ slice_cmp nat_cmp (decimal a) (decimal b)
to_cut a b l = go (eq-or-lt_of_le (not_shorter a b l))
  where
    cut : List ℕ
    cut = take (length (decimal a)) (decimal b)

    rest : List ℕ
    rest = drop (length (decimal a)) (decimal b)

    some_left : (xs : List ℕ) → 0 < length xs → slice_cmp nat_cmp [] xs ≡ Less
    some_left [] h = absurd (omega (arith, h))
    some_left (x ∷ xs) h = refl

    go : (length (decimal a) ≡ length (decimal b)) ⊎ (length (decimal a) < length (decimal b)) → ordering_then (slice_cmp nat_cmp (decimal a) cut) Less ≡ slice_cmp nat_cmp (decimal a) (decimal b)
    go (inl long) =
        let whole : cut ≡ decimal b = take_all (length (decimal a)) (decimal b) (omega (arith, long)) in
        let told : slice_cmp nat_cmp (decimal a) (decimal b) ≡ Less = sym (as_long a b long) ∙ sym (nat_cmp_is a b Less l) in
        ap (λ xs. ordering_then (slice_cmp nat_cmp (decimal a) xs) Less) whole ∙ ap (λ o. ordering_then o Less) told ∙ sym told
    go (inr more) =
        let long : length (decimal a) ≡ length cut = sym (length-take-le (length (decimal a)) (decimal b) (omega (arith, more))) in
        let left : slice_cmp nat_cmp [] rest ≡ Less = some_left rest (omega (arith, more, length-drop (length (decimal a)) (decimal b))) in
        let both : slice_cmp nat_cmp (decimal a ++ []) (cut ++ rest) ≡ ordering_then (slice_cmp nat_cmp (decimal a) cut) Less =
        slice_cmp-append (decimal a) cut [] rest long ∙ ap (λ o. ordering_then (slice_cmp nat_cmp (decimal a) cut) o) left in
        sym both ∙ (λ i. slice_cmp nat_cmp (append-nil (decimal a) i) (take-append-drop (length (decimal a)) (decimal b) i))
