-- Bins as lists, the most recently used first; each key stands once in a bin, which has room for so many.
-- https://www.drupal.org/docs/drupal-apis/cache-api/cache-api
use Rattle.std.specs.Prelude.{ℕ, List, [], ◌∷◌, ◌++◌, ◌≡◌, ◌<◌, ◌≤◌, ◌+◌, ◌⊎◌, Bool, ◌&&◌, ◌==◌, not, is_some, min, Option, Some, None, All, Contains, length, map}
use Rattle.std.specs.Arc.{arc_value}
use Rattle.std.specs.List.{IsDistinct}
use Rattle.std.specs.Map.{keys_of, lookup}
use Rattle.lru.specs.LruCache.{LruCache}
use Rattle.cacheability.specs.declared.context.Context.{Context}
use Rattle.cache_entries.specs.declared.entry.Entry.{Entry}
use Rattle.cache_entries.specs.declared.key.Key.{Key}
use Rattle.cache_entries.specs.declared.kept.Bin.{Bin}
use Rattle.cache_entries.specs.declared.kept.Bin.TheVariants as bin
use Rattle.cache_entries.specs.declared.kept.Found.{Found}
use Rattle.cache_entries.specs.declared.kept.Found.TheVariants as found
use Rattle.cache_entries.specs.declared.kept.Kept.{Kept}
use Rattle.cache_entries.specs.declared.kept.Kept.TheVariants as kept
use Rattle.cache_entries.specs.Keys.{same_key}

-- an entry, or the contexts of a redirect, wherever it lies
pub data Thing : Type 0 where
  Whole : Entry → Thing
  Towards : List Context → Thing

abbrev pub thing_of : Kept → Thing
thing_of (kept.Entry e) = Whole (arc_value e)
thing_of (kept.Redirect contexts) = Towards (arc_value contexts)

abbrev pub thing_found : Found → Option Thing
thing_found (found.Entry e) = Some (Whole (arc_value e))
thing_found (found.Redirect contexts) = Some (Towards (arc_value contexts))
thing_found found.Absent = None

-- one bin: how many things it has room for, and the things with their keys, the most recently used first
pub record Shelf : Type 0 where
  pub room : ℕ
  pub things : List (Key × Thing)

-- the bins, and how many keys they dropped for want of room, up to the greatest u64
pub record Bins : Type 0 where
  pub fragments : Shelf
  pub dynamic : Shelf
  pub anonymous : Shelf
  pub dropped : ℕ

abbrev pub shelf_of : Bins → Bin → Shelf
shelf_of bins bin.Fragments = bins.fragments
shelf_of bins bin.Dynamic = bins.dynamic
shelf_of bins bin.Anonymous = bins.anonymous

abbrev pub with_shelf : Bins → Bin → Shelf → Bins
with_shelf bins bin.Fragments shelf = record bins { fragments = shelf }
with_shelf bins bin.Dynamic shelf = record bins { dynamic = shelf }
with_shelf bins bin.Anonymous shelf = record bins { anonymous = shelf }

abbrev pub empty : ℕ → Shelf
empty room = record { room = room; things = [] }

-- what holds of every bin: each key stands once, and there are no more than it has room for, which is at least one
pub record IsShelf (shelf : Shelf) : Type 0 where
  pub distinct : IsDistinct same_key (keys_of shelf.things)
  pub within : length shelf.things ≤ shelf.room
  pub has_room : 0 < shelf.room

-- ---- looking

-- the key is not in the list
abbrev pub IsAbsent : Key → List (Key × Thing) → Type 0
IsAbsent key things = All (λ p. p.0 ≡ key → ⊥) things

-- what stands under the key goes first; under this key nothing else stands
pub record MovesUp (old : List (Key × Thing)) (key : Key) (thing : Thing) (new : List (Key × Thing)) : Type 0 where
  pub front : List (Key × Thing)
  pub rest : List (Key × Thing)
  pub before : old ≡ front ++ (key, thing) ∷ rest
  pub after : new ≡ (key, thing) ∷ front ++ rest
  pub only : (other : Thing) → Contains old (key, other) → other ≡ thing

-- nothing is found exactly where the key is absent
abbrev pub LooksFor : List (Key × Thing) → Key → Option Thing → List (Key × Thing) → Type 0
LooksFor old key None new = IsAbsent key old × (new ≡ old)
LooksFor old key (Some thing) new = MovesUp old key thing new

pub record Looks (old : Shelf) (key : Key) (thing : Option Thing) (new : Shelf) : Type 0 where
  pub room : new.room ≡ old.room
  pub things : LooksFor old.things key thing new.things

-- a look at a bin leaves the others as they were
pub record LooksIn (old : Bins) (bin : Bin) (key : Key) (thing : Option Thing) (new : Bins) : Type 0 where
  pub looks : Looks (shelf_of old bin) key thing (shelf_of new bin)
  pub others : new ≡ with_shelf old bin (shelf_of new bin)

-- ---- keeping

-- what stood under the same key is replaced, and goes first
pub record Replaces (old : List (Key × Thing)) (key : Key) (thing : Thing) (new : List (Key × Thing)) : Type 0 where
  pub front : List (Key × Thing)
  pub rest : List (Key × Thing)
  pub was : Thing
  pub before : old ≡ front ++ (key, was) ∷ rest
  pub after : new ≡ (key, thing) ∷ front ++ rest

-- a new key goes first where there is room
pub record Adds (room : ℕ) (old : List (Key × Thing)) (key : Key) (thing : Thing) (new : List (Key × Thing)) : Type 0 where
  pub absent : IsAbsent key old
  pub short : length old < room
  pub after : new ≡ (key, thing) ∷ old

-- and where there is none the last one is dropped
pub record Drops (room : ℕ) (old : List (Key × Thing)) (key : Key) (thing : Thing) (new : List (Key × Thing)) : Type 0 where
  pub absent : IsAbsent key old
  pub full : length old ≡ room
  pub front : List (Key × Thing)
  pub last : Key × Thing
  pub before : old ≡ front ++ last ∷ []
  pub after : new ≡ (key, thing) ∷ front

-- a count that stays at the greatest u64
abbrev pub up : ℕ → ℕ
up count = min (count + 1) 18_446_744_073_709_551_615

-- a key that is dropped is counted
abbrev pub KeepsAt : ℕ → List (Key × Thing) → Key → Thing → List (Key × Thing) → ℕ → ℕ → Type 0
KeepsAt room old key thing new dropped dropped' =
    ((Replaces old key thing new ⊎ Adds room old key thing new) × (dropped' ≡ dropped))
    ⊎ (Drops room old key thing new × (dropped' ≡ up dropped))

pub record Keeps (old : Shelf) (key : Key) (thing : Thing) (new : Shelf) (dropped dropped' : ℕ) : Type 0 where
  pub room : new.room ≡ old.room
  pub things : KeepsAt old.room old.things key thing new.things dropped dropped'

-- keeping in a bin leaves the others as they were
pub record KeepsIn (old : Bins) (bin : Bin) (key : Key) (thing : Thing) (new : Bins) : Type 0 where
  pub keeps : Keeps (shelf_of old bin) key thing (shelf_of new bin) old.dropped new.dropped
  pub others : new ≡ record (with_shelf old bin (shelf_of new bin)) { dropped = new.dropped }

-- ---- over the map that holds a bin

abbrev pub thing_entry : Key × Kept → Key × Thing
thing_entry e = (e.0, thing_of e.1)

abbrev pub things_of : List (Key × Kept) → List (Key × Thing)
things_of entries = map thing_entry entries

abbrev pub seen : LruCache Key Kept → Shelf
seen cache = record { room = cache.cap; things = things_of cache.entries }

-- whether keeping under a key drops another one: the key is new, and there is no more room
abbrev pub must_drop : LruCache Key Kept → Key → Bool
must_drop cache key = length cache.entries == cache.cap && not (is_some (lookup (same_key key) cache.entries))
