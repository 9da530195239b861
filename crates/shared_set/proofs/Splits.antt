-- Chunks in a row, of which one is replaced.
use Rattle.std.proofs.Common.{ℕ, zero, suc, List, [], ◌∷◌, ◌++◌, ◌≡◌, ◌<◌, ◌≤◌, ◌+◌, length, get_or, take, drop, append_assoc, refl, sym, ◌∙◌, ap, subst, arith, Bool, true, false, add-one, slice_set}
use Rattle.std.specs.Prelude.{◌||◌}
use Rattle.std.specs.List.{filter}
use Rattle.std.specs.List.Sorted.{IsStrictlySortedBy}
use Rattle.std.specs.Cmp.{IsTotalOrder}
use Rattle.std.specs.BTreeSet.{insert_key}
use Rattle.std.specs.declared.cmp.Ordering.{Ordering}
use Rattle.std.specs.declared.cmp.Ordering.TheVariants.{Less}
use Rattle.std.proofs.lemmas.List.{append-nil, drop-set-lt, take-append-drop, take_all}
use Rattle.std.proofs.lemmas.List.Folds.{list_any-append}
use Rattle.std.proofs.lemmas.List.Elements.{filter-append}
use Rattle.shared_set.specs.Keys.{flat, is_other, is_from, reaches}
use Rattle.shared_set.proofs.Ends.{others_below, others_above, above_rest, put_past, put_within, sorted_after, sorted_before, rest_from, from_none, none_before}

pub flat_append : {A : Type 0} (bs cs : List (List A)) → flat (bs ++ cs) ≡ flat bs ++ flat cs
flat_append [] cs = refl
flat_append (b ∷ bs) cs = ap (λ l. b ++ l) (flat_append bs cs) ∙ sym (append_assoc b (flat bs) (flat cs))

pub flat_push : {A : Type 0} (bs : List (List A)) (b : List A) → flat (bs ++ b ∷ []) ≡ flat bs ++ b
flat_push bs b = flat_append bs (b ∷ []) ∙ ap (λ l. flat bs ++ l) (append-nil b)

-- one more chunk of a list that is cut up
pub more_parts : {A : Type 0} (bs : List (List A)) (xs all : List A) (n : ℕ) → flat bs ++ xs ≡ all → flat (bs ++ take n xs ∷ []) ++ drop n xs ≡ all
more_parts bs xs all n h =
    ap (λ l. l ++ drop n xs) (flat_push bs (take n xs)) ∙ append_assoc (flat bs) (take n xs) (drop n xs) ∙ ap (λ l. flat bs ++ l) (take-append-drop n xs) ∙ h

split : {A : Type 0} (bs : List (List A)) (i : ℕ) → i < length bs → flat bs ≡ flat (take i bs) ++ (get_or bs i [] ++ flat (drop (suc i) bs))
split [] i l = absurd (omega arith)
split (b ∷ bs) zero l = refl
split (b ∷ bs) (suc i) l = ap (λ l. b ++ l) (split bs i (omega arith)) ∙ sym (append_assoc b (flat (take i bs)) (get_or bs i [] ++ flat (drop (suc i) bs)))

pub flat_split : {A : Type 0} (bs : List (List A)) (i : ℕ) → i < length bs → flat bs ≡ flat (take i bs) ++ (get_or bs i [] ++ flat (drop (i + 1) bs))
flat_split bs i l = split bs i l ∙ ap (λ n. flat (take i bs) ++ (get_or bs i [] ++ flat (drop n bs))) (sym (add-one i))

taken_set : {A : Type 0} (bs : List (List A)) (i : ℕ) (b : List A) → i < length bs → flat (take (suc i) (slice_set bs i b)) ≡ flat (take i bs) ++ b
taken_set [] i b l = absurd (omega arith)
taken_set (c ∷ bs) zero b l = append-nil b
taken_set (c ∷ bs) (suc i) b l = ap (λ l. c ++ l) (taken_set bs i b (omega arith)) ∙ sym (append_assoc c (flat (take i bs)) b)

set_one : {A : Type 0} (bs : List (List A)) (i : ℕ) (b : List A) → i < length bs → flat (slice_set bs i b) ≡ flat (take i bs) ++ (b ++ flat (drop (suc i) bs))
set_one [] i b l = absurd (omega arith)
set_one (c ∷ bs) zero b l = refl
set_one (c ∷ bs) (suc i) b l = ap (λ l. c ++ l) (set_one bs i b (omega arith)) ∙ sym (append_assoc c (flat (take i bs)) (b ++ flat (drop (suc i) bs)))

-- a chunk replaced, by one, by two and by none
pub replaced_one : {A : Type 0} (bs : List (List A)) (i : ℕ) (b : List A) → i < length bs → flat (slice_set bs i b) ≡ flat (take i bs) ++ (b ++ flat (drop (i + 1) bs))
replaced_one bs i b l = set_one bs i b l ∙ ap (λ n. flat (take i bs) ++ (b ++ flat (drop n bs))) (sym (add-one i))

pub replaced_two : {A : Type 0} (bs : List (List A)) (i : ℕ) (low high : List A) → i < length bs
    → flat (take (i + 1) (slice_set bs i low) ++ high ∷ drop (i + 1) (slice_set bs i low)) ≡ flat (take i bs) ++ ((low ++ high) ++ flat (drop (i + 1) bs))
replaced_two bs i low high l =
    let set = slice_set bs i low in
    flat_append (take (i + 1) set) (high ∷ drop (i + 1) set)
    ∙ ap (λ n. flat (take n set) ++ (high ++ flat (drop (i + 1) set))) (add-one i)
    ∙ ap (λ l. l ++ (high ++ flat (drop (i + 1) set))) (taken_set bs i low l)
    ∙ ap (λ ds. (flat (take i bs) ++ low) ++ (high ++ flat ds)) (drop-set-lt (i + 1) bs i low (omega arith))
    ∙ append_assoc (flat (take i bs)) low (high ++ flat (drop (i + 1) bs))
    ∙ ap (λ l. flat (take i bs) ++ l) (sym (append_assoc low high (flat (drop (i + 1) bs))))

pub replaced_none : {A : Type 0} (bs : List (List A)) (i : ℕ) (keys : List A) → keys ≡ [] → flat (take i bs ++ drop (suc i) bs) ≡ flat (take i bs) ++ (keys ++ flat (drop (i + 1) bs))
replaced_none bs i keys none =
    flat_append (take i bs) (drop (suc i) bs) ∙ ap (λ n. flat (take i bs) ++ flat (drop n bs)) (sym (add-one i)) ∙ ap (λ l. flat (take i bs) ++ (l ++ flat (drop (i + 1) bs))) (sym none)

taken_next : {A : Type 0} (bs : List (List A)) (i : ℕ) → i < length bs → flat (take (suc i) bs) ≡ flat (take i bs) ++ get_or bs i []
taken_next [] i l = absurd (omega arith)
taken_next (b ∷ bs) zero l = append-nil b
taken_next (b ∷ bs) (suc i) l = ap (λ l. b ++ l) (taken_next bs i (omega arith)) ∙ sym (append_assoc b (flat (take i bs)) (get_or bs i []))

-- a chunk that does not reach a key or a stretch: none of the chunks before it does
pub reaches_up_to : {S K : Type 0} {R : K → K → Ordering} (beside : S → K → Ordering) (s : S) → ((x y : K) → R x y ≡ Less → is_from beside s x ≡ true → is_from beside s y ≡ true)
    → (bs : List (List K)) (i : ℕ) → i < length bs → IsStrictlySortedBy R (flat bs) → 0 < length (get_or bs i []) → reaches beside s (get_or bs i []) ≡ false → reaches beside s (flat (take (i + 1) bs)) ≡ false
reaches_up_to {R = R} beside s on bs i l sorted some h =
    let past = flat (take i bs) in
    let here = get_or bs i [] in
    let parted : flat bs ≡ (past ++ here) ++ flat (drop (i + 1) bs) = flat_split bs i l ∙ sym (append_assoc past here (flat (drop (i + 1) bs))) in
    ap (λ n. reaches beside s (flat (take n bs))) (add-one i) ∙ ap (reaches beside s) (taken_next bs i l)
    ∙ none_before beside s on past here (sorted_before R (past ++ here) (flat (drop (i + 1) bs)) (subst (IsStrictlySortedBy R) parted sorted)) some h

module _ {K : Type 0} {R : K → K → Ordering} (o : IsTotalOrder R) (k : K) (bs : List (List K)) (i : ℕ) (l : i < length bs) (before : reaches R k (flat (take i bs)) ≡ false) where
  abbrev past : List K
  past = flat (take i bs)

  abbrev here : List K
  here = get_or bs i []

  abbrev rest : List K
  rest = flat (drop (i + 1) bs)

  pub put_here : reaches R k here ≡ true → past ++ (insert_key R here k ++ rest) ≡ insert_key R (flat bs) k
  put_here there =
      sym (ap (λ l. insert_key R l k) (flat_split bs i l) ∙ put_past o k past (here ++ rest) before ∙ ap (λ l. past ++ l) (put_within o k here rest there))

  pub out_here : reaches R k here ≡ true → IsStrictlySortedBy R (flat bs) → past ++ (filter (is_other R k) here ++ rest) ≡ filter (is_other R k) (flat bs)
  out_here there sorted =
      let later : IsStrictlySortedBy R (here ++ rest) = sorted_after R past (here ++ rest) (subst (IsStrictlySortedBy R) (flat_split bs i l) sorted) in
      sym (
      ap (filter (is_other R k)) (flat_split bs i l)
      ∙ filter-append (is_other R k) past (here ++ rest)
      ∙ (λ t. others_below o k past before t ++ filter-append (is_other R k) here rest t)
      ∙ ap (λ l. past ++ (filter (is_other R k) here ++ l)) (others_above o k rest (above_rest o k here rest later there))
      )

-- the last chunk, where no key is from k on
pub put_at_end : {K : Type 0} {R : K → K → Ordering} (o : IsTotalOrder R) (k : K) (bs : List (List K)) (i : ℕ) → i + 1 ≡ length bs → reaches R k (flat bs) ≡ false → flat (take i bs) ++ (insert_key R (get_or bs i []) k ++ flat (drop (i + 1) bs)) ≡ insert_key R (flat bs) k
put_at_end {R = R} o k bs i e h =
    let past = flat (take i bs) in
    let here = get_or bs i [] in
    let all : flat bs ≡ past ++ here = flat_split bs i (omega arith) ∙ ap (λ n. past ++ (here ++ flat (drop n bs))) e ∙ ap (λ l. past ++ (here ++ flat l)) (drop_whole bs) ∙ ap (λ l. past ++ l) (append-nil here) in
    let none : reaches R k (past ++ here) ≡ false = ap (reaches R k) (sym all) ∙ h in
    ap (λ n. past ++ (insert_key R here k ++ flat (drop n bs))) e ∙ ap (λ l. past ++ (insert_key R here k ++ flat l)) (drop_whole bs)
    ∙ ap (λ l. past ++ l) (append-nil (insert_key R here k))
    ∙ sym (ap (λ l. insert_key R l k) all ∙ put_past o k past here (left (reaches R k past) (reaches R k here) (sym (list_any-append (is_from R k) past here) ∙ none)))
  where
    drop_whole : {A : Type 0} (xs : List A) → drop (length xs) xs ≡ []
    drop_whole [] = refl
    drop_whole (x ∷ xs) = drop_whole xs

    left : (a b : Bool) → (a || b) ≡ false → a ≡ false
    left true b h = h
    left false b h = refl

-- no chunk has the key
pub out_none : {K : Type 0} {R : K → K → Ordering} (o : IsTotalOrder R) (k : K) (bs : List (List K)) (i : ℕ) → length bs ≤ i → reaches R k (flat (take i bs)) ≡ false → flat bs ≡ filter (is_other R k) (flat bs)
out_none {R = R} o k bs i l h = sym (others_below o k (flat bs) (ap (λ cs. reaches R k (flat cs)) (sym (take_all i bs l)) ∙ h))

-- a chunk that reaches a stretch, and one that does not
pub begun_at : {S K : Type 0} {R : K → K → Ordering} (beside : S → K → Ordering) (s : S) → ((x y : K) → R x y ≡ Less → is_from beside s x ≡ true → is_from beside s y ≡ true)
    → (b ys : List K) → IsStrictlySortedBy R (b ++ ys) → reaches beside s b ≡ true → filter (is_from beside s) b ++ ys ≡ filter (is_from beside s) (b ++ ys)
begun_at beside s on b ys h g = sym (filter-append (is_from beside s) b ys ∙ ap (λ l. filter (is_from beside s) b ++ l) (rest_from beside s on b ys h g))

pub passed_by : {S K : Type 0} (beside : S → K → Ordering) (s : S) (bs : List (List K)) (i : ℕ) → reaches beside s (flat (take i bs)) ≡ false → filter (is_from beside s) (flat (drop i bs)) ≡ filter (is_from beside s) (flat bs)
passed_by beside s bs i h =
    let past = flat (take i bs) in
    let rest = flat (drop i bs) in
    sym (ap (λ cs. filter (is_from beside s) (flat cs)) (sym (take-append-drop i bs)) ∙ ap (filter (is_from beside s)) (flat_append (take i bs) (drop i bs))
    ∙ filter-append (is_from beside s) past rest ∙ ap (λ l. l ++ filter (is_from beside s) rest) (from_none beside s past h))

-- the chunk with which the rest of some chunks begins
pub first_of_rest : {K : Type 0} (R : K → K → Ordering) (bs : List (List K)) (i : ℕ) (b : List K) (others : List (List K)) → drop i bs ≡ b ∷ others → IsStrictlySortedBy R (flat bs)
    → (i < length bs) × (b ≡ get_or bs i []) × IsStrictlySortedBy R (b ++ flat others)
first_of_rest R [] zero b others parted h = cc
first_of_rest R [] (suc i) b others parted h = cc
first_of_rest R (c ∷ bs) zero b others parted h = (omega arith, sym (ap (λ l. get_or l 0 []) parted), subst (λ l. IsStrictlySortedBy R (flat l)) parted h)
first_of_rest R (c ∷ bs) (suc i) b others parted h =
    let rest = first_of_rest R bs i b others parted (sorted_after R c (flat bs) h) in
    (let l = rest.0 in omega arith, rest.1, rest.2)

pub nothing : {A : Type 0} (xs : List A) → length xs ≡ 0 → xs ≡ []
nothing [] h = refl
nothing (x ∷ xs) h = absurd (omega arith)
