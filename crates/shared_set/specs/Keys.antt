-- Keys in order, which stand in chunks.
use Rattle.std.specs.Prelude.{List, [], ◌∷◌, ◌++◌, Bool, not, cond, fold}
use Rattle.std.specs.List.{list_any, filter}
use Rattle.std.specs.BTreeSet.{insert_key}
use Rattle.std.specs.Ordering.{is_eq, is_gt, is_lt, eq_by_cmp}
use Rattle.std.specs.Cmp.Lexicographic.{pointwise}
use Rattle.std.specs.declared.cmp.Ordering.{Ordering}

-- the keys of all chunks, one chunk after the other
abbrev pub flat : {A : Type 0} → List (List A) → List A
flat [] = []
flat (b ∷ bs) = b ++ flat bs

-- whether a key is another than this one
abbrev pub is_other : {K : Type 0} → (K → K → Ordering) → K → K → Bool
is_other cmp k x = not (is_eq (cmp k x))

-- Whether a key is not before another key, or before a stretch of keys, by where that stands beside it. Whether it is not
-- behind the stretch, and whether it is in it.
abbrev pub is_from : {S K : Type 0} → (S → K → Ordering) → S → K → Bool
is_from beside s x = not (is_gt (beside s x))

abbrev pub is_up_to : {S K : Type 0} → (S → K → Ordering) → S → K → Bool
is_up_to beside s x = not (is_lt (beside s x))

abbrev pub is_in : {S K : Type 0} → (S → K → Ordering) → S → K → Bool
is_in beside s x = is_eq (beside s x)

-- whether some key is not before it
abbrev pub reaches : {S K : Type 0} → (S → K → Ordering) → S → List K → Bool
reaches beside s xs = list_any (is_from beside s) xs

-- a set without some keys, and with some
abbrev pub without_all : {K : Type 0} → (K → K → Ordering) → List K → List K → List K
without_all cmp set ks = fold (λ s k. filter (is_other cmp k) s) set ks

abbrev pub with_all : {K : Type 0} → (K → K → Ordering) → List K → List K → List K
with_all cmp set ks = fold (insert_key cmp) set ks

-- a set in which some keys give way to others; where both are the same, it stays as it is
abbrev pub exchanged : {K : Type 0} → (K → K → Ordering) → List K → List K → List K → List K
exchanged cmp set old new = cond (pointwise (eq_by_cmp cmp) old new) set (with_all cmp (without_all cmp set old) new)
