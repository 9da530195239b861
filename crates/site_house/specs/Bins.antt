-- What a house keeps of pages: what is found there, and what becomes of what is to be kept.
use Rattle.std.specs.Prelude.{ℕ, ◌≡◌, Option, Some, None, Result, Ok, Err}
use Rattle.std.specs.declared.alloc.AllocError.{AllocError}
use Rattle.content_state.specs.State.{State}
use Rattle.cache_entries.specs.declared.entry.Entry.{Entry}
use Rattle.cache_entries.specs.declared.key.Key.{Key}
use Rattle.cache_entries.specs.declared.kept.Bin.{Bin}
use Rattle.cache_entries.specs.declared.kept.Found.{Found}
use Rattle.cache_entries.specs.declared.kept.Kept.{Kept}
use Rattle.cache_entries.specs.Sound.{IsOf, IsSound, IsSoundKept, IsSoundFound}
use Rattle.fragment_cache.specs.Bins.{Bins, thing_of, thing_found, LooksIn, KeepsIn}
use Rattle.page_meaning.specs.Meaning.{meaning}
use Rattle.site_house.specs.House.{HouseView, Moves, up}

-- a state is one of those that a house has seen
abbrev pub IsSeenIn : HouseView → State → Type 0
IsSeenIn house state = IsOf house.base house.seen state

-- what is to be kept under a key, or was found there, is sound over what a house has seen
abbrev pub MayBeKeptIn : HouseView → Key → Kept → Type 0
MayBeKeptIn house key kept = IsSoundKept meaning house.base house.seen key kept

abbrev pub IsSoundIn : HouseView → Key → Found → Type 0
IsSoundIn house key found = IsSoundFound meaning house.base house.seen key found

-- what is told of the bins at a look: as they were where memory was wanting
abbrev pub LooksAt : Option Bins → Bin → Key → Result Found AllocError → Option Bins → Type 0
LooksAt None bin key result new = new ≡ None
LooksAt (Some old) bin key (Ok found) new = (bins : Bins) × (new ≡ Some bins) × LooksIn old bin key (thing_found found) bins
LooksAt (Some old) bin key (Err fault) new = new ≡ Some old

-- what is told of the bins once something was to be kept: as they were where it wasn't, for want of memory
abbrev pub KeepsAt : Option Bins → Bin → Key → Kept → Result (Unit {0}) AllocError → Option Bins → Type 0
KeepsAt None bin key kept result new = new ≡ None
KeepsAt (Some old) bin key kept (Ok done) new = (bins : Bins) × (new ≡ Some bins) × KeepsIn old bin key (thing_of kept) bins
KeepsAt (Some old) bin key kept (Err fault) new = new ≡ Some old

-- the count of what wasn't kept, by the answer
abbrev pub unkept_by : Result (Unit {0}) AllocError → ℕ → ℕ
unkept_by (Ok done) unkept = unkept
unkept_by (Err fault) unkept = up unkept

-- A look: what is found is just what stands under the key in the bin, where the house tells that.
pub record LooksUp (old new : HouseView) (bin : Bin) (key : Key) (result : Result Found AllocError) : Type 0 where
  pub bins : LooksAt old.bins bin key result new.bins
  pub unkept : new.unkept ≡ old.unkept

-- Something is kept, and nothing else changes in the bins, where the house tells them; or it isn't, and that is counted.
pub record KeepsUnder (old new : HouseView) (bin : Bin) (key : Key) (kept : Kept) (result : Result (Unit {0}) AllocError) : Type 0 where
  pub bins : KeepsAt old.bins bin key kept result new.bins
  pub unkept : new.unkept ≡ unkept_by result old.unkept

-- ---- what stays

-- a state that a house has seen is one of those that it has seen then
abbrev pub SeenStay : Type 0
SeenStay = (old new : HouseView) (state : State) → Moves old new → IsSeenIn old state → IsSeenIn new state

-- what is sound over what a house has seen stays so
abbrev pub SoundStay : Type 0
SoundStay =
    (old new : HouseView) (key : Key) (e : Entry) → Moves old new
    → IsSound meaning old.base old.seen key e → IsSound meaning new.base new.seen key e
