-- A finite map in buckets: the map that they are together, and what they keep.
use Rattle.std.specs.Prelude.{ℕ, suc, List, [], ◌∷◌, ◌++◌, ◌≡◌, ◌≤◌, ◌<◌, ◌==◌, max, length, take, drop}
use Rattle.std.specs.List.{AllByRecursion, filter}
use Rattle.std.specs.List.Sorted.{IsStrictlySortedBy}
use Rattle.std.specs.Map.{keys_of}
use denote.Ref.{Bor}
use Rattle.std.specs.BTreeMap.{insert_entry}
use Rattle.std.specs.declared.cmp.Ordering.{Ordering}
use Rattle.std.specs.declared.cmp.Ordering.TheVariants.{Less, Equal, Greater}

-- the entries of all buckets, one bucket behind the other
abbrev pub flat : {A : Type 0} → List (List A) → List A
flat [] = []
flat (b ∷ bs) = b ++ flat bs

-- what a pair of references shows, and what an iterator of entries has left
abbrev pub shown : {K V : Type 0} → Bor K × Bor V → K × V
shown e = (e.0.now, e.1.now)

abbrev pub entries_left : {K V : Type 0} → List (K × V) → List (K × V)
entries_left es = es

-- entries in the order of their keys
abbrev pub in_order : {K V : Type 0} → (K → K → Ordering) → List (K × V) → List (K × V)
in_order cmp [] = []
in_order cmp (e ∷ es) = insert_entry cmp (in_order cmp es) e.0 e.1

-- buckets, the first of which has this number: each has keys of its own number alone, in order, each once
abbrev pub ArePlaced : {K V : Type 0} → (K → K → Ordering) → (K → ℕ) → ℕ → List (List (K × V)) → Type 0
ArePlaced cmp place n [] = Unit {0}
ArePlaced cmp place n (b ∷ bs) =
    AllByRecursion (λ k. place k ≡ n) (keys_of b) × IsStrictlySortedBy cmp (keys_of b) × ArePlaced cmp place (suc n) bs

-- how many entries of a map have their place in the bucket of a number
abbrev pub bucket_size : {K V : Type 0} → (K → ℕ) → List (K × V) → ℕ → ℕ
bucket_size place es n = length (filter (λ e. place e.0 == n) es)

-- none of the buckets to which these keys belong has more than so many entries
abbrev pub AtMost : {K V : Type 0} → (K → ℕ) → List (K × V) → ℕ → List K → Type 0
AtMost place es most keys = AllByRecursion (λ k. bucket_size place es (place k) ≤ most) keys

-- how many entries of a map the fullest of those buckets has
abbrev pub fullest : {K V : Type 0} → (K → ℕ) → List (K × V) → List K → ℕ
fullest place es [] = 0
fullest place es (k ∷ keys) = max (bucket_size place es (place k)) (fullest place es keys)

-- a key stands at this index of entries, or goes there: those before it are below it, those behind it above
abbrev pub StandsAt : {K V : Type 0} → (K → K → Ordering) → List (K × V) → K → ℕ → Type 0
StandsAt cmp es k i =
    AllByRecursion (λ q. cmp k q ≡ Greater) (keys_of (take i es)) × AllByRecursion (λ q. cmp k q ≡ Equal) (keys_of (take 1 (drop i es))) × (i < length es)

abbrev pub GoesTo : {K V : Type 0} → (K → K → Ordering) → List (K × V) → K → ℕ → Type 0
GoesTo cmp es k i =
    AllByRecursion (λ q. cmp k q ≡ Greater) (keys_of (take i es)) × AllByRecursion (λ q. cmp k q ≡ Less) (keys_of (drop i es)) × (i ≤ length es)
