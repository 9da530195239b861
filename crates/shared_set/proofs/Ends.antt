-- Lists in order, and what one key that is not below another tells of the keys around it.
use Rattle.std.proofs.Common.{ℕ, zero, suc, List, [], ◌∷◌, ◌++◌, ◌≡◌, ◌≤◌, ◌<◌, ◌-◌, length, get_or, take, drop, refl, sym, ◌∙◌, ap, subst, arith, Bool, true, false, cond, ◌+◌, add-one}
use Rattle.std.specs.Prelude.{not, ◌||◌, ◌&&◌}
use Rattle.std.specs.List.{AllByRecursion, filter}
use Rattle.std.specs.List.Sorted.{IsStrictlySortedBy}
use Rattle.std.specs.Ordering.{is_eq, is_gt, is_lt, match_ordering}
use Rattle.std.specs.Cmp.{IsTotalOrder}
use Rattle.std.specs.BTreeSet.{insert_key}
use Rattle.std.specs.declared.cmp.Ordering.{Ordering}
use Rattle.std.specs.declared.cmp.Ordering.TheVariants.{Less, Equal, Greater}
use Rattle.std.proofs.lemmas.List.Kept.{IsStrictlySortedBy-filter}
use Rattle.std.proofs.lemmas.List.{take-append-drop}
use Rattle.std.proofs.lemmas.List.Elements.{filter-append}
use Rattle.std.proofs.lemmas.Map.Keys.{sorted_head, sorted_tail, Less-from_sorted}
use Rattle.shared_set.specs.Keys.{is_other, is_from, is_up_to, is_in, reaches}

pub never : {P : Type 0} → true ≡ false → P
never h = absurd (no h)
  where
    no : true ≡ false → ⊥
    no e = cc

implied : (a b : Bool) → (a ≡ true → b ≡ true) → (a || b) ≡ b
implied true b h = sym (h refl)
implied false b h = refl

pub neither : (a b : Bool) → (a || b) ≡ false → (a ≡ false) × (b ≡ false)
neither true b h = never h
neither false b h = (refl, h)

second : (a b : Bool) → (a || b) ≡ true → a ≡ false → b ≡ true
second true b h e = never e
second false b h e = h

or_false : (a : Bool) → (a || false) ≡ a
or_false true = refl
or_false false = refl

and_false : (a : Bool) → (a && false) ≡ false
and_false true = refl
and_false false = refl

greater : (r : Ordering) → not (is_gt r) ≡ false → r ≡ Greater
greater Less h = cc
greater Equal h = cc
greater Greater h = refl

-- ---- parts of a list in order

pub all_after : {A : Type 0} (P : A → Type 0) (xs ys : List A) → AllByRecursion P (xs ++ ys) → AllByRecursion P ys
all_after P [] ys h = h
all_after P (x ∷ xs) ys h = all_after P xs ys h.1

pub all_before : {A : Type 0} (P : A → Type 0) (xs ys : List A) → AllByRecursion P (xs ++ ys) → AllByRecursion P xs
all_before P [] ys h = tt
all_before P (x ∷ xs) ys h = (h.0, all_before P xs ys h.1)

pub sorted_after : {K : Type 0} (R : K → K → Ordering) (xs ys : List K) → IsStrictlySortedBy R (xs ++ ys) → IsStrictlySortedBy R ys
unfolding IsStrictlySortedBy
sorted_after R [] ys h = h
sorted_after R (x ∷ xs) ys h = sorted_after R xs ys h.1

pub sorted_before : {K : Type 0} (R : K → K → Ordering) (xs ys : List K) → IsStrictlySortedBy R (xs ++ ys) → IsStrictlySortedBy R xs
unfolding IsStrictlySortedBy
sorted_before R [] ys h = tt
sorted_before R (x ∷ xs) ys h = (all_before (λ y. R x y ≡ Less) xs ys h.0, sorted_before R xs ys h.1)

pub sorted_take : {K : Type 0} (R : K → K → Ordering) (n : ℕ) (xs : List K) → IsStrictlySortedBy R xs → IsStrictlySortedBy R (take n xs)
sorted_take R n xs h = sorted_before R (take n xs) (drop n xs) (subst (IsStrictlySortedBy R) (sym (take-append-drop n xs)) h)

pub sorted_drop : {K : Type 0} (R : K → K → Ordering) (n : ℕ) (xs : List K) → IsStrictlySortedBy R xs → IsStrictlySortedBy R (drop n xs)
sorted_drop R n xs h = sorted_after R (take n xs) (drop n xs) (subst (IsStrictlySortedBy R) (sym (take-append-drop n xs)) h)

pub sorted_none : {K : Type 0} (R : K → K → Ordering) → IsStrictlySortedBy R []
unfolding IsStrictlySortedBy
sorted_none R = tt

pub sorted_one : {K : Type 0} (R : K → K → Ordering) (k : K) → IsStrictlySortedBy R (k ∷ [])
unfolding IsStrictlySortedBy
sorted_one R k = (tt, tt)

pub sorted_from : {S K : Type 0} (R : K → K → Ordering) (beside : S → K → Ordering) (s : S) (xs : List K) → IsStrictlySortedBy R xs → IsStrictlySortedBy R (filter (is_from beside s) xs)
sorted_from R beside s xs h = IsStrictlySortedBy-filter R (is_from beside s) xs h

pub sorted_others : {K : Type 0} (R : K → K → Ordering) (k : K) (xs : List K) → IsStrictlySortedBy R xs → IsStrictlySortedBy R (filter (is_other R k) xs)
sorted_others R k xs h = IsStrictlySortedBy-filter R (is_other R k) xs h

module _ {K : Type 0} {R : K → K → Ordering} (o : IsTotalOrder R) where
  -- what stands after a key that is not below k is above k
  above : (k x y : K) → is_from R k x ≡ true → R x y ≡ Less → R k y ≡ Less
  above k x y h less = go (R k x) refl h
    where
      go : (r : Ordering) → R k x ≡ r → not (is_gt r) ≡ true → R k y ≡ Less
      go Less e h = o.trans k x y e less
      go Equal e h = o.congr k x y e ∙ less
      go Greater e h = cc

  is_above : (k y : K) → R k y ≡ Less → is_from R k y ≡ true
  is_above k y e = ap (λ r. not (is_gt r)) e

  all_above : (k x : K) (ys : List K) → is_from R k x ≡ true → AllByRecursion (λ y. R x y ≡ Less) ys → AllByRecursion (λ y. R k y ≡ Less) ys
  all_above k x [] h all = tt
  all_above k x (y ∷ ys) h all = (above k x y h all.0, all_above k x ys h all.1)

  -- ---- a list that does not reach a key
  pub others_below : (k : K) (xs : List K) → reaches R k xs ≡ false → filter (is_other R k) xs ≡ xs
  others_below k [] h = refl
  others_below k (x ∷ xs) h =
      let parts = neither (is_from R k x) (reaches R k xs) h in
      ap (λ r. cond (not (is_eq r)) (x ∷ filter (is_other R k) xs) (filter (is_other R k) xs)) (greater (R k x) parts.0) ∙ ap (λ l. x ∷ l) (others_below k xs parts.1)

  pub put_past : (k : K) (xs ys : List K) → reaches R k xs ≡ false → insert_key R (xs ++ ys) k ≡ xs ++ insert_key R ys k
  put_past k [] ys h = refl
  put_past k (x ∷ xs) ys h =
      let parts = neither (is_from R k x) (reaches R k xs) h in
      ap (λ r. match_ordering r (k ∷ x ∷ (xs ++ ys)) (x ∷ (xs ++ ys)) (x ∷ insert_key R (xs ++ ys) k)) (greater (R k x) parts.0) ∙ ap (λ l. x ∷ l) (put_past k xs ys parts.1)

  -- ---- a list that reaches a key
  pub put_within : (k : K) (xs ys : List K) → reaches R k xs ≡ true → insert_key R (xs ++ ys) k ≡ insert_key R xs k ++ ys
  put_within k [] ys h = cc
  put_within k (x ∷ xs) ys h = go (R k x) refl (put_within k xs ys)
    where
      go : (r : Ordering) → R k x ≡ r → (reaches R k xs ≡ true → insert_key R (xs ++ ys) k ≡ insert_key R xs k ++ ys)
          → match_ordering r (k ∷ x ∷ (xs ++ ys)) (x ∷ (xs ++ ys)) (x ∷ insert_key R (xs ++ ys) k) ≡ match_ordering r (k ∷ x ∷ xs) (x ∷ xs) (x ∷ insert_key R xs k) ++ ys
      go Less e rest = refl
      go Equal e rest = refl
      go Greater e rest = ap (λ l. x ∷ l) (rest (second (is_from R k x) (reaches R k xs) h (ap (λ r. not (is_gt r)) e)))

  pub above_rest : (k : K) (xs ys : List K) → IsStrictlySortedBy R (xs ++ ys) → reaches R k xs ≡ true → AllByRecursion (λ y. R k y ≡ Less) ys
  above_rest k [] ys s h = never (sym h)
  above_rest k (x ∷ xs) ys s h = go (is_from R k x) refl (above_rest k xs ys (sorted_tail R x (xs ++ ys) s))
    where
      go : (b : Bool) → is_from R k x ≡ b → (reaches R k xs ≡ true → AllByRecursion (λ y. R k y ≡ Less) ys) → AllByRecursion (λ y. R k y ≡ Less) ys
      go true e rest = all_above k x ys e (all_after (λ y. R x y ≡ Less) xs ys (sorted_head R x (xs ++ ys) s))
      go false e rest = rest (second (is_from R k x) (reaches R k xs) h e)

  pub others_above : (k : K) (ys : List K) → AllByRecursion (λ y. R k y ≡ Less) ys → filter (is_other R k) ys ≡ ys
  others_above k [] h = refl
  others_above k (y ∷ ys) h = ap (λ r. cond (not (is_eq r)) (y ∷ filter (is_other R k) ys) (filter (is_other R k) ys)) h.0 ∙ ap (λ l. y ∷ l) (others_above k ys h.1)

  -- ---- keys beside a key
  pub from_on : (k x y : K) → R x y ≡ Less → is_from R k x ≡ true → is_from R k y ≡ true
  from_on k x y less h = is_above k y (above k x y h less)

-- what passes a test, where two parts of a list meet
pub from_both : {K : Type 0} (p : K → Bool) (xs : List K) (i j : ℕ) → i ≤ j → j ≤ i → filter p (take i xs) ≡ [] → filter p (drop j xs) ≡ drop j xs → drop i xs ≡ filter p xs
from_both p xs i j low high none all =
    let met : j ≡ i = omega arith in
    sym (ap (filter p) (sym (take-append-drop i xs)) ∙ filter-append p (take i xs) (drop i xs) ∙ ap (λ l. l ++ filter p (drop i xs)) none ∙ subst (λ n. filter p (drop n xs) ≡ drop n xs) met all)

-- ---- keys beside a key or a stretch of keys
module _ {S K : Type 0} (beside : S → K → Ordering) (s : S) where
  pub from_none : (xs : List K) → reaches beside s xs ≡ false → filter (is_from beside s) xs ≡ []
  from_none [] h = refl
  from_none (x ∷ xs) h =
      let parts = neither (is_from beside s x) (reaches beside s xs) h in
      ap (λ b. cond b (x ∷ filter (is_from beside s) xs) (filter (is_from beside s) xs)) parts.0 ∙ from_none xs parts.1

  -- not before it and not behind it is in it
  pub from_up_to : (xs : List K) → filter (is_up_to beside s) (filter (is_from beside s) xs) ≡ filter (is_in beside s) xs
  from_up_to [] = refl
  from_up_to (x ∷ xs) = go (beside s x) refl (from_up_to xs)
    where
      go : (r : Ordering) → beside s x ≡ r → filter (is_up_to beside s) (filter (is_from beside s) xs) ≡ filter (is_in beside s) xs
          → filter (is_up_to beside s) (cond (not (is_gt r)) (x ∷ filter (is_from beside s) xs) (filter (is_from beside s) xs)) ≡ cond (is_eq r) (x ∷ filter (is_in beside s) xs) (filter (is_in beside s) xs)
      go Less e rest = ap (λ r. cond (not (is_lt r)) (x ∷ filter (is_up_to beside s) (filter (is_from beside s) xs)) (filter (is_up_to beside s) (filter (is_from beside s) xs))) e ∙ rest
      go Equal e rest = ap (λ r. cond (not (is_lt r)) (x ∷ filter (is_up_to beside s) (filter (is_from beside s) xs)) (filter (is_up_to beside s) (filter (is_from beside s) xs))) e ∙ ap (λ l. x ∷ l) rest
      go Greater e rest = rest

module _ {S K : Type 0} {R : K → K → Ordering} (beside : S → K → Ordering) (s : S) where
  -- along a list in order, what is not before it stays so
  module _ (on : (x y : K) → R x y ≡ Less → is_from beside s x ≡ true → is_from beside s y ≡ true) where
    reaches_at : (l : K) (xs : List K) (n : ℕ) → IsStrictlySortedBy R xs → length xs ≡ suc n → l ≡ get_or xs n l → is_from beside s l ≡ reaches beside s xs
    reaches_at l [] n h e at = absurd (omega arith)
    reaches_at l (x ∷ []) zero h e at = ap (is_from beside s) at ∙ sym (or_false (is_from beside s x))
    reaches_at l (x ∷ y ∷ ys) zero h e at = absurd (omega arith)
    reaches_at l (x ∷ xs) (suc n) h e at =
        let rest : is_from beside s l ≡ reaches beside s xs = reaches_at l xs n (sorted_tail R x xs h) (omega arith) at in
        let less : R x l ≡ Less = ap (R x) at ∙ Less-from_sorted R (x ∷ xs) 0 (suc n) l h (omega arith) (omega arith) in
        rest ∙ sym (implied (is_from beside s x) (reaches beside s xs) (λ g. sym rest ∙ on x l less g))

    -- the last key of a list in order tells whether one is not before it
    pub reaches_by_last : (l : K) (xs : List K) → IsStrictlySortedBy R xs → 1 ≤ length xs → l ≡ get_or xs (length xs - 1) l → is_from beside s l ≡ reaches beside s xs
    reaches_by_last l xs h some at = reaches_at l xs (length xs - 1) h (omega arith) at

    all_from : (x : K) (ys : List K) → is_from beside s x ≡ true → AllByRecursion (λ y. R x y ≡ Less) ys → filter (is_from beside s) ys ≡ ys
    all_from x [] h all = refl
    all_from x (y ∷ ys) h all =
        ap (λ b. cond b (y ∷ filter (is_from beside s) ys) (filter (is_from beside s) ys)) (on x y all.0 h) ∙ ap (λ l. y ∷ l) (all_from x ys h all.1)

    pub rest_from : (xs ys : List K) → IsStrictlySortedBy R (xs ++ ys) → reaches beside s xs ≡ true → filter (is_from beside s) ys ≡ ys
    rest_from [] ys h g = never (sym g)
    rest_from (x ∷ xs) ys h g = go (is_from beside s x) refl (rest_from xs ys (sorted_tail R x (xs ++ ys) h))
      where
        go : (b : Bool) → is_from beside s x ≡ b → (reaches beside s xs ≡ true → filter (is_from beside s) ys ≡ ys) → filter (is_from beside s) ys ≡ ys
        go true e rest = all_from x ys e (all_after (λ y. R x y ≡ Less) xs ys (sorted_head R x (xs ++ ys) h))
        go false e rest = rest (second (is_from beside s x) (reaches beside s xs) g e)

    -- where a list in order is before it to the last key, what stands before that list is, too
    pub none_before : (xs ys : List K) → IsStrictlySortedBy R (xs ++ ys) → 0 < length ys → reaches beside s ys ≡ false → reaches beside s (xs ++ ys) ≡ false
    none_before [] ys h some g = g
    none_before (x ∷ xs) [] h some g = absurd (omega arith)
    none_before (x ∷ xs) (y ∷ ys) h some g =
        let less : R x y ≡ Less = (all_after (λ z. R x z ≡ Less) xs (y ∷ ys) (sorted_head R x (xs ++ y ∷ ys) h)).0 in
        ap (λ a. a || reaches beside s (xs ++ y ∷ ys)) (go less (is_from beside s x) refl) ∙ none_before xs (y ∷ ys) (sorted_tail R x (xs ++ y ∷ ys) h) some g
      where
        go : R x y ≡ Less → (b : Bool) → is_from beside s x ≡ b → is_from beside s x ≡ false
        go less true e = never (sym (on x y less e) ∙ (neither (is_from beside s y) (reaches beside s ys) g).0)
        go less false e = e

    none_to : (x : K) (xs : List K) (i : ℕ) (d : K) → IsStrictlySortedBy R (x ∷ xs) → i < length xs → is_from beside s (get_or xs i d) ≡ false → is_from beside s x ≡ false
    none_to x xs i d h l g = go (is_from beside s x) refl
      where
        less : R x (get_or xs i d) ≡ Less
        less = Less-from_sorted R (x ∷ xs) 0 (suc i) d h (omega arith) (omega arith)

        go : (b : Bool) → is_from beside s x ≡ b → b ≡ false
        go true e = never (sym (on x (get_or xs i d) less e) ∙ g)
        go false e = refl

    -- a key in the middle of a list in order, with what it tells of those before it and of those from it on
    before_middle : (xs : List K) (i : ℕ) (d : K) → IsStrictlySortedBy R xs → i < length xs → is_from beside s (get_or xs i d) ≡ false → filter (is_from beside s) (take (suc i) xs) ≡ []
    before_middle [] i d h l g = absurd (omega arith)
    before_middle (x ∷ xs) zero d h l g = ap (λ b. cond b (x ∷ []) []) g
    before_middle (x ∷ xs) (suc i) d h l g =
        ap (λ b. cond b (x ∷ filter (is_from beside s) (take (suc i) xs)) (filter (is_from beside s) (take (suc i) xs))) (none_to x xs i d h (omega arith) g)
        ∙ before_middle xs i d (sorted_tail R x xs h) (omega arith) g

    pub from_middle : (xs : List K) (i : ℕ) (d : K) → IsStrictlySortedBy R xs → i < length xs → is_from beside s (get_or xs i d) ≡ true → filter (is_from beside s) (drop i xs) ≡ drop i xs
    from_middle [] i d h l g = absurd (omega arith)
    from_middle (x ∷ xs) zero d h l g =
        ap (λ b. cond b (x ∷ filter (is_from beside s) xs) (filter (is_from beside s) xs)) g ∙ ap (λ l. x ∷ l) (all_from x xs g (sorted_head R x xs h))
    from_middle (x ∷ xs) (suc i) d h l g = from_middle xs i d (sorted_tail R x xs h) (omega arith) g

    pub up_to_middle : (xs : List K) (i : ℕ) (d : K) → IsStrictlySortedBy R xs → i < length xs → is_from beside s (get_or xs i d) ≡ false → filter (is_from beside s) (take (i + 1) xs) ≡ []
    up_to_middle xs i d h l g = ap (λ n. filter (is_from beside s) (take n xs)) (add-one i) ∙ before_middle xs i d h l g

  -- nothing that stands after a key behind it is up to it
  pub none_up_to : ((x y : K) → R x y ≡ Less → beside s x ≡ Less → beside s y ≡ Less) → (x : K) (xs : List K) → IsStrictlySortedBy R (x ∷ xs) → is_up_to beside s x ≡ false → filter (is_up_to beside s) (x ∷ xs) ≡ []
  none_up_to on x xs h g =
      ap (λ b. cond b (x ∷ filter (is_up_to beside s) xs) (filter (is_up_to beside s) xs)) g ∙ none xs (sorted_head R x xs h)
    where
      less : (r : Ordering) → not (is_lt r) ≡ false → r ≡ Less
      less Less h = refl
      less Equal h = cc
      less Greater h = cc

      none : (ys : List K) → AllByRecursion (λ y. R x y ≡ Less) ys → filter (is_up_to beside s) ys ≡ []
      none [] all = refl
      none (y ∷ ys) all =
          ap (λ r. cond (not (is_lt r)) (y ∷ filter (is_up_to beside s) ys) (filter (is_up_to beside s) ys)) (on x y all.0 (less (beside s x) g)) ∙ none ys all.1

-- what the law of stretches says of keys that are not before one
pub stays_from : {S K : Type 0} {R : K → K → Ordering} (beside : S → K → Ordering) (s : S) → ((x y : K) → R x y ≡ Less → beside s y ≡ Greater → beside s x ≡ Greater) → (x y : K) → R x y ≡ Less → is_from beside s x ≡ true → is_from beside s y ≡ true
stays_from beside s before x y less h = go (beside s y) refl
  where
    go : (r : Ordering) → beside s y ≡ r → not (is_gt r) ≡ true
    go Less e = refl
    go Equal e = refl
    go Greater e = never (sym h ∙ ap (λ r. not (is_gt r)) (before x y less e))
