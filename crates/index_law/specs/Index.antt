-- An index of a map: the keys that its entries give, in order. Each key names the entry that gave it.
use Rattle.std.specs.Prelude.{List, [], Option, Some, None, ◌≡◌, true, fold}
use Rattle.std.specs.List.{flat_map, list_any}
use Rattle.std.specs.Ordering.{eq_by_cmp}
use Rattle.std.specs.Map.{remove_entry, lookup}
use Rattle.std.specs.BTreeMap.{is_at, insert_entry}
use Rattle.std.specs.BTreeSet.{insert_key}
use Rattle.std.specs.declared.cmp.Ordering.{Ordering}
use Rattle.std.specs.declared.cmp.Ordering.TheVariants.{Equal}
use Rattle.shared_set.specs.Keys.{exchanged}

-- some keys in their order, each once
abbrev pub in_order : {K : Type 0} → (K → K → Ordering) → List K → List K
in_order cmp ks = fold (insert_key cmp) [] ks

-- the index of some entries: all keys that they give, in order
abbrev pub index_of : {C X K : Type 0} → (K → K → Ordering) → (C × X → List K) → List (C × X) → List K
index_of cmp keys rows = in_order cmp (flat_map keys rows)

-- what an entry gives, which may be absent
abbrev pub keys_at : {C X K : Type 0} → (C × X → List K) → C → Option X → List K
keys_at keys c None = []
keys_at keys c (Some x) = keys (c, x)

-- the entries after a write of one
abbrev pub written : {C X : Type 0} → (C → C → Ordering) → List (C × X) → C → Option X → List (C × X)
written cmp rows c None = remove_entry (is_at (cmp c)) rows
written cmp rows c (Some x) = insert_entry cmp rows c x

-- an order tells every two apart
abbrev pub TellsApart : {K : Type 0} → (K → K → Ordering) → Type 0
TellsApart {K} cmp = (a b : K) → cmp a b ≡ Equal → a ≡ b

-- each key names the entry that gave it
abbrev pub NameOwners : {C X K : Type 0} → (K → K → Ordering) → (C × X → List K) → (K → C) → Type 0
NameOwners {C} {X} {K} cmp keys owner = (c : C) (x : X) (k : K) → list_any (eq_by_cmp cmp k) (keys (c, x)) ≡ true → owner k ≡ c

-- The index after a write is the one before it in which the keys of the entry that was there give way to those of the new
-- one.
abbrev pub IndexIsKept : {C X K : Type 0} → (C → C → Ordering) → (K → K → Ordering) → (C × X → List K) → List (C × X) → C → Option X → Type 0
IndexIsKept row_cmp cmp keys rows c x =
    index_of cmp keys (written row_cmp rows c x) ≡ exchanged cmp (index_of cmp keys rows) (keys_at keys c (lookup (is_at (row_cmp c)) rows)) (keys_at keys c x)
