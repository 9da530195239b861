-- What setting, inserting and removing at the place of a name make of the values of a node's fields.
use Rattle.std.proofs.Common.{ℕ, ◌+◌, ◌<◌, ◌≤◌, suc, List, [], ◌∷◌, ◌≡◌, refl, ap, subst, arith, Bool, true, false, cond, if◌then◌else◌, length, map, Option, Some, None, option_map, Result, Ok, Err, slice_set, slice_index_or}
use Rattle.std.specs.List.{insert, remove}
use Rattle.std.specs.Map.{remove_entry}
use Rattle.std.specs.BTreeMap.{is_at, insert_entry}
use Rattle.std.specs.declared.cmp.Ordering.{Ordering}
use Rattle.std.specs.declared.cmp.Ordering.TheVariants.{Less, Equal, Greater}
use Rattle.std.specs.Ordering.{nat_cmp, match_ordering, is_eq}
use Rattle.std.specs.Cmp.Lexicographic.{slice_cmp}
use Rattle.content_rows.specs.declared.row.FieldValue.{FieldValue}
use Rattle.site_commands.specs.Fields.{value_entry, entry_value}
use Rattle.edit_machine.specs.Places.{further, place_in, place_of}

abbrev made : List ℕ → List ℕ → FieldValue
made name value = record { name = name; value = value }

-- ---- a place is within the values

within_step : (o : Ordering) (r : Result ℕ ℕ) (n i : ℕ) → match_ordering o (Err 0) (Ok 0) (further 1 r) ≡ Ok i → ((j : ℕ) → r ≡ Ok j → j < n) → i < suc n
within_step Less r n i e rest = absurd cc
within_step Equal r n i e rest = let zero_is : i ≡ 0 = cc in omega arith
within_step Greater (Ok j) n i e rest = let next : 1 + j ≡ i = cc in let below = rest j refl in omega arith
within_step Greater (Err j) n i e rest = absurd cc

pub place_within : (name : List ℕ) (vs : List FieldValue) (i : ℕ) → place_in vs name ≡ Ok i → i < length vs
place_within name [] i e = absurd cc
place_within name (v ∷ vs) i e =
    within_step (slice_cmp nat_cmp name v.name) (place_in vs name) (length vs) i e (place_within name vs)

free_step : (o : Ordering) (r : Result ℕ ℕ) (n i : ℕ) → match_ordering o (Err 0) (Ok 0) (further 1 r) ≡ Err i → ((j : ℕ) → r ≡ Err j → j ≤ n) → i ≤ suc n
free_step Less r n i e rest = let zero_is : i ≡ 0 = cc in omega arith
free_step Equal r n i e rest = absurd cc
free_step Greater (Ok j) n i e rest = absurd cc
free_step Greater (Err j) n i e rest = let next : 1 + j ≡ i = cc in let below = rest j refl in omega arith

pub free_within : (name : List ℕ) (vs : List FieldValue) (i : ℕ) → place_in vs name ≡ Err i → i ≤ length vs
free_within name [] i e = let zero_is : i ≡ 0 = cc in omega arith
free_within name (v ∷ vs) i e =
    free_step (slice_cmp nat_cmp name v.name) (place_in vs name) (length vs) i e (free_within name vs)

first_step : (b : Bool) (o : Option ℕ) (n i : ℕ) → (if b then Some 0 else option_map (λ place. 1 + place) o) ≡ Some i → ((j : ℕ) → o ≡ Some j → j < n) → i < suc n
first_step true o n i e rest = let zero_is : i ≡ 0 = cc in omega arith
first_step false None n i e rest = absurd cc
first_step false (Some j) n i e rest = let next : 1 + j ≡ i = cc in let below = rest j refl in omega arith

pub first_within : (name : List ℕ) (vs : List FieldValue) (i : ℕ) → place_of vs name ≡ Some i → i < length vs
first_within name [] i e = absurd cc
first_within name (v ∷ vs) i e =
    first_step (is_eq (slice_cmp nat_cmp name v.name)) (place_of vs name) (length vs) i e (first_within name vs)

-- ---- a value is set

abbrev Sets : List FieldValue → FieldValue → List ℕ → List (List ℕ × List ℕ) → ℕ → Type 0
Sets vs old value set i =
    old ≡ slice_index_or vs i old → map value_entry (slice_set vs i (made old.name value)) ≡ set

set_step : (o : Ordering) (r : Result ℕ ℕ) (v : FieldValue) (vs : List FieldValue) (i : ℕ) (old : FieldValue) (name value : List ℕ) (rest : List (List ℕ × List ℕ)) → match_ordering o (Err 0) (Ok 0) (further 1 r) ≡ Ok i → ((j : ℕ) → r ≡ Ok j → Sets vs old value rest j) → Sets (v ∷ vs) old value (match_ordering o ((name, value) ∷ value_entry v ∷ map value_entry vs) ((v.name, value) ∷ map value_entry vs) (value_entry v ∷ rest)) i
set_step Less r v vs i old name value rest e below = absurd cc
set_step Equal r v vs i old name value rest e below =
    let zero_is : 0 ≡ i = cc in
    subst (Sets (v ∷ vs) old value ((v.name, value) ∷ map value_entry vs)) zero_is
    (λ same. ap (λ (x : FieldValue). (x.name, value) ∷ map value_entry vs) same)
set_step Greater (Ok j) v vs i old name value rest e below =
    let next : 1 + j ≡ i = cc in
    let is : suc j ≡ i = omega arith in
    subst (Sets (v ∷ vs) old value (value_entry v ∷ rest)) is
    (λ same. ap (λ es. value_entry v ∷ es) (below j refl same))
set_step Greater (Err j) v vs i old name value rest e below = absurd cc

pub set_at : (name value : List ℕ) (vs : List FieldValue) (i : ℕ) (old : FieldValue) → place_in vs name ≡ Ok i → old ≡ slice_index_or vs i old → map value_entry (slice_set vs i (made old.name value)) ≡ insert_entry (slice_cmp nat_cmp) (map value_entry vs) name value
set_at name value [] i old e same = absurd cc
set_at name value (v ∷ vs) i old e same =
    set_step (slice_cmp nat_cmp name v.name) (place_in vs name) v vs i old name value (insert_entry (slice_cmp nat_cmp) (map value_entry vs) name value) e (λ j found there. set_at name value vs j old found there) same

-- ---- a value is put in

abbrev Inserts : List FieldValue → FieldValue → List (List ℕ × List ℕ) → ℕ → Type 0
Inserts vs new put i = map value_entry (insert vs i new) ≡ put

insert_step : (o : Ordering) (r : Result ℕ ℕ) (v : FieldValue) (vs : List FieldValue) (i : ℕ) (name value : List ℕ) (rest : List (List ℕ × List ℕ)) → match_ordering o (Err 0) (Ok 0) (further 1 r) ≡ Err i → ((j : ℕ) → r ≡ Err j → Inserts vs (made name value) rest j) → Inserts (v ∷ vs) (made name value) (match_ordering o ((name, value) ∷ value_entry v ∷ map value_entry vs) ((v.name, value) ∷ map value_entry vs) (value_entry v ∷ rest)) i
insert_step Less r v vs i name value rest e below =
    let zero_is : 0 ≡ i = cc in
    subst (Inserts (v ∷ vs) (made name value) ((name, value) ∷ value_entry v ∷ map value_entry vs)) zero_is refl
insert_step Equal r v vs i name value rest e below = absurd cc
insert_step Greater (Ok j) v vs i name value rest e below = absurd cc
insert_step Greater (Err j) v vs i name value rest e below =
    let next : 1 + j ≡ i = cc in
    let is : suc j ≡ i = omega arith in
    subst (Inserts (v ∷ vs) (made name value) (value_entry v ∷ rest)) is (ap (λ es. value_entry v ∷ es) (below j refl))

pub inserted_at : (name value : List ℕ) (vs : List FieldValue) (i : ℕ) → place_in vs name ≡ Err i → map value_entry (insert vs i (made name value)) ≡ insert_entry (slice_cmp nat_cmp) (map value_entry vs) name value
inserted_at name value [] i e =
    let zero_is : 0 ≡ i = cc in
    subst (Inserts [] (made name value) ((name, value) ∷ [])) zero_is refl
inserted_at name value (v ∷ vs) i e =
    insert_step (slice_cmp nat_cmp name v.name) (place_in vs name) v vs i name value (insert_entry (slice_cmp nat_cmp) (map value_entry vs) name value) e (λ j found. inserted_at name value vs j found)

-- ---- a value is taken away

abbrev Removes : List FieldValue → List (List ℕ × List ℕ) → ℕ → Type 0
Removes vs without i = map value_entry (remove vs i) ≡ without

remove_step : (b : Bool) (o : Option ℕ) (v : FieldValue) (vs : List FieldValue) (i : ℕ) (rest : List (List ℕ × List ℕ)) → (if b then Some 0 else option_map (λ place. 1 + place) o) ≡ Some i → ((j : ℕ) → o ≡ Some j → Removes vs rest j) → Removes (v ∷ vs) (cond b (map value_entry vs) (value_entry v ∷ rest)) i
remove_step true o v vs i rest e below =
    let zero_is : 0 ≡ i = cc in
    subst (Removes (v ∷ vs) (map value_entry vs)) zero_is refl
remove_step false None v vs i rest e below = absurd cc
remove_step false (Some j) v vs i rest e below =
    let next : 1 + j ≡ i = cc in
    let is : suc j ≡ i = omega arith in
    subst (Removes (v ∷ vs) (value_entry v ∷ rest)) is (ap (λ es. value_entry v ∷ es) (below j refl))

pub removed_at : (name : List ℕ) (vs : List FieldValue) (i : ℕ) → place_of vs name ≡ Some i → map value_entry (remove vs i) ≡ remove_entry (is_at (slice_cmp nat_cmp name)) (map value_entry vs)
removed_at name [] i e = absurd cc
removed_at name (v ∷ vs) i e =
    remove_step (is_eq (slice_cmp nat_cmp name v.name)) (place_of vs name) v vs i (remove_entry (is_at (slice_cmp nat_cmp name)) (map value_entry vs)) e (λ j found. removed_at name vs j found)

-- ---- there is nothing to take away

absent_step : (b : Bool) (o : Option ℕ) (v : FieldValue) (vs : List FieldValue) (rest : List (List ℕ × List ℕ)) → (if b then Some 0 else option_map (λ place. 1 + place) o) ≡ None → (o ≡ None → map value_entry vs ≡ rest) → value_entry v ∷ map value_entry vs ≡ cond b (map value_entry vs) (value_entry v ∷ rest)
absent_step true o v vs rest e below = absurd cc
absent_step false None v vs rest e below = ap (λ es. value_entry v ∷ es) (below refl)
absent_step false (Some j) v vs rest e below = absurd cc

pub none_removed : (name : List ℕ) (vs : List FieldValue) → place_of vs name ≡ None → map value_entry vs ≡ remove_entry (is_at (slice_cmp nat_cmp name)) (map value_entry vs)
none_removed name [] e = refl
none_removed name (v ∷ vs) e =
    absent_step (is_eq (slice_cmp nat_cmp name v.name)) (place_of vs name) v vs (remove_entry (is_at (slice_cmp nat_cmp name)) (map value_entry vs)) e (λ none. none_removed name vs none)

-- ---- values as entries, and back

pub entries_back : (vs : List FieldValue) → map entry_value (map value_entry vs) ≡ vs
entries_back [] = refl
entries_back (v ∷ vs) = ap (λ more. v ∷ more) (entries_back vs)
