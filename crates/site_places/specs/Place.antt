-- A place that the program works at: what it is to give, and how often it failed.
use Rattle.std.specs.Prelude.{ℕ, List, [], ◌∷◌, ◌++◌, ◌≡◌, ◌≤◌, ◌<◌, ◌+◌, ◌-◌, ◌%◌, ◌^◌, ◌==◌, ◌||◌, Bool, true, false, Option, Some, None, Vec, find, map, position, remove, slice_get, option_map, option_and_then, MatchOption}
use Rattle.std.specs.List.{list_any}
use Rattle.std.specs.Option.{option_map_or}
use Rattle.std.specs.Str.{bytes_eq}
use Rattle.site_io.specs.declared.device.Point.{Point}
use Rattle.site_io.specs.Memory.{Input, fresh, up}
use Rattle.site_io.specs.Told.{Rose}
use Rattle.site_io.specs.Doors.{Line, Back}
use Rattle.site_io.specs.MemoryDoors.{MemoryDoor}
use Rattle.site_keeper.specs.Keeper.{Kept}
use Rattle.site_keeper.specs.Memory.{fresh as fresh_keeper, made_of, MemoryKeeper}
use Rattle.site_keeper.specs.declared.memory.Fail.{Fail}
use Rattle.site_keeper.specs.declared.stored.Stored.{Stored}
use Rattle.site_places.specs.declared.place.NoDevice.{NoDevice}
use Rattle.site_places.specs.declared.place.NoDevice.TheVariants as why

-- What a place tells beforehand of a file or a store: nothing, that there is none, or what is in it.
pub data Known (X : Type 0) : Type 0 where
  untold : Known X
  absent : Known X
  there : X → Known X

-- what is in it, where that is told
abbrev pub held : {X : Type 0} → Known X → Option X
held untold = None
held absent = None
held (there x) = Some x

-- what is known of one that is looked up where all of them are told
abbrev pub known : {X : Type 0} → Option X → Known X
known None = absent
known (Some x) = there x

-- a port in memory: its address, and the door there
pub record Port : Type 0 where
  pub address : List ℕ
  pub door : MemoryDoor

-- the lists that its clocks and its entropies are to give, the bytes of its files and what its stores hold by their
-- paths, and its doors by their addresses, each where it tells them; how many devices of rows are out; what the keeper tells
-- that was given back last; what the doors tell that were given back, in order, and how many are out; how often it failed to
-- open a device; and how often a device of rows, a keeper, and a door, that had failed was given back
pub record PlaceView : Type 0 where
  pub moments : Option (List (List ℕ))
  pub words : Option (List (List ℕ))
  pub file : List ℕ → Known (List ℕ)
  pub store : List ℕ → Known Kept
  pub doors : Option (List Port)
  pub rows_out : ℕ
  pub returned : Option Kept
  pub doors_back : Option (List (List Back))
  pub doors_out : ℕ
  pub faults : ℕ
  pub rows_faults : ℕ
  pub keeper_faults : ℕ
  pub door_faults : ℕ

-- a file in memory: its path, its bytes, and the numbers, from 1, of the reads that are to fail
pub record File : Type 0 where
  pub path : List ℕ
  pub bytes : List ℕ
  pub failing : List ℕ

-- a store in memory: its path, what it holds, and the calls of its keeper that are to fail
pub record Store : Type 0 where
  pub path : List ℕ
  pub stored : Stored
  pub failing : List Fail

-- A place in memory: the moments that each clock in turn is to give, and the words that each entropy is; its files, its
-- stores and its ports; how many devices of rows are out; the keeper that was given back last, the doors that were given back,
-- and how many are out; the numbers, from 1, of the openings that are to fail, how many there were, and how many failed; and how
-- many devices of rows, keepers and doors were given back that had failed.
pub record Memory : Type 0 where
  pub moments : List (List ℕ)
  pub words : List (List ℕ)
  pub files : List File
  pub stores : List Store
  pub ports : List Port
  pub rows_out : ℕ
  pub returned : Option MemoryKeeper
  pub doors_back : List MemoryDoor
  pub doors_out : ℕ
  pub failing : List ℕ
  pub opened : ℕ
  pub faults : ℕ
  pub rows_faults : ℕ
  pub keeper_faults : ℕ
  pub door_faults : ℕ

-- one where nothing was given and nothing failed yet, and which has neither files, stores nor ports
abbrev pub new_memory : List (List ℕ) → List (List ℕ) → Memory
new_memory moments words = record {
  moments = moments;
  words = words;
  files = [];
  stores = [];
  ports = [];
  rows_out = 0;
  returned = None;
  doors_back = [];
  doors_out = 0;
  failing = [];
  opened = 0;
  faults = 0;
  rows_faults = 0;
  keeper_faults = 0;
  door_faults = 0;
}

-- The place of the real program: the seed that its words of chance are made from, and how many streams of them it gave;
-- how many devices of rows, and doors, are out; how often it failed to open a device, and how often a device of rows, a keeper,
-- and a door, was given back that had failed.
pub record System : Type 0 where
  pub seed : List ℕ
  pub streams : ℕ
  pub rows_out : ℕ
  pub doors_out : ℕ
  pub faults : ℕ
  pub rows_faults : ℕ
  pub keeper_faults : ℕ
  pub door_faults : ℕ

-- where nothing was given and nothing failed yet
abbrev pub IsNewSystem : System → Type 0
IsNewSystem place = place ≡ record { seed = place.seed; streams = 0; rows_out = 0; doors_out = 0; faults = 0; rows_faults = 0; keeper_faults = 0; door_faults = 0 }

-- One more stream was given. After 2^64 of them their numbers begin anew.
abbrev pub stream_given : System → System
stream_given place = record place { streams = (place.streams + 1) % 2 ^ 64 }

-- the list that is next; past the last one it is empty
abbrev pub next_list : Option (List (List ℕ)) → Option (List ℕ)
next_list None = None
next_list (Some []) = Some []
next_list (Some (list ∷ later)) = Some list

-- the lists after that one
abbrev pub later_lists : Option (List (List ℕ)) → Option (List (List ℕ))
later_lists None = None
later_lists (Some []) = Some []
later_lists (Some (list ∷ later)) = Some later

-- of what is told beforehand nothing was given yet
abbrev pub none_given : Option (List ℕ) → Option (List ℕ)
none_given None = None
none_given (Some values) = Some []

-- the numbers of a vector
abbrev pub numbers : {Z : Type 0} → Vec ℕ Z → List ℕ
numbers vector = vector.items

-- where the points that were reached are told, there are none yet
abbrev pub IsNoneReached : Option (List Point) → Type 0
IsNoneReached None = Unit {0}
IsNoneReached (Some points) = points ≡ []

-- ---- doors

-- at a door nothing happened yet
pub record IsNewDoor (door : MemoryDoor) : Type 0 where
  pub none_out : door.is_out ≡ false
  pub none_back : door.returned ≡ []
  pub unused : door.calls.faults ≡ 0

-- the place in the list of the first port of an address
abbrev pub place_of : List ℕ → List Port → Option ℕ
place_of address ports = position (λ port. bytes_eq port.address address) ports

-- the first port of an address, and those that are left without it
abbrev pub port_at : List ℕ → List Port → Option Port
port_at address ports = option_and_then (slice_get ports) (place_of address ports)

abbrev pub ports_left : List ℕ → List Port → List Port
ports_left address ports = option_map_or (remove ports) (place_of address ports) ports

-- where the doors are told, a door that has these connections to come is the next one of its address
abbrev pub IsDoorAt : Option (List Port) → List ℕ → Option (List Line) → Type 0
IsDoorAt None address coming = Unit {0}
IsDoorAt (Some ports) address coming = MatchOption (port_at address ports) ⊥ (λ port. coming ≡ Some port.door.coming)

-- where the connections that were given back are told, there are none yet
abbrev pub IsNoneBack : Option (List Back) → Type 0
IsNoneBack None = Unit {0}
IsNoneBack (Some backs) = backs ≡ []

-- ---- what the calls of a place change

-- the next door of an address was given, and is out
abbrev pub door_given : List ℕ → PlaceView → PlaceView
door_given address place = record place { doors = option_map (ports_left address) place.doors; doors_out = place.doors_out + 1 }

-- one door more was given back
abbrev pub and_door : Option (List (List Back)) → Option (List Back) → Option (List (List Back))
and_door None returned = None
and_door (Some doors) None = None
and_door (Some doors) (Some returned) = Some (doors ++ returned ∷ [])

-- a door that told this was given back, and nothing else changed
abbrev pub door_returned : Option (List Back) → PlaceView → PlaceView
door_returned returned place = record place { doors_back = and_door place.doors_back returned; doors_out = place.doors_out - 1 }

-- a door that told this was given back that had failed, and nothing else changed
pub record DoorFails (returned : Option (List Back)) (old new : PlaceView) : Type 0 where
  pub same : new ≡ record (door_returned returned old) { door_faults = new.door_faults }
  pub rose : Rose old.door_faults new.door_faults
  pub never_falls : old.door_faults ≤ new.door_faults

-- a clock was given
abbrev pub clock_given : PlaceView → PlaceView
clock_given place = record place { moments = later_lists place.moments }

-- entropy was given
abbrev pub entropy_given : PlaceView → PlaceView
entropy_given place = record place { words = later_lists place.words }

-- no device was opened, and nothing else changed
pub record OpeningFails (old new : PlaceView) : Type 0 where
  pub same : new ≡ record old { faults = new.faults }
  pub rose : Rose old.faults new.faults
  pub never_falls : old.faults ≤ new.faults

-- a device of rows was given, and is out
abbrev pub rows_given : PlaceView → PlaceView
rows_given place = record place { rows_out = place.rows_out + 1 }

-- it was given back, and nothing else changed
abbrev pub rows_returned : PlaceView → PlaceView
rows_returned place = record place { rows_out = place.rows_out - 1 }

-- a device of rows was given back that had failed, and nothing else changed
pub record RowsFail (old new : PlaceView) : Type 0 where
  pub same : new ≡ record (rows_returned old) { rows_faults = new.rows_faults }
  pub rose : Rose old.rows_faults new.rows_faults
  pub never_falls : old.rows_faults ≤ new.rows_faults

-- a keeper that told this was given back, and nothing else changed
abbrev pub keeper_given : Option Kept → PlaceView → PlaceView
keeper_given kept place = record place { returned = kept }

-- a keeper that told this was given back that had failed, and nothing else changed
pub record KeeperFails (kept : Option Kept) (old new : PlaceView) : Type 0 where
  pub same : new ≡ record old { returned = kept; keeper_faults = new.keeper_faults }
  pub rose : Rose old.keeper_faults new.keeper_faults
  pub never_falls : old.keeper_faults ≤ new.keeper_faults

-- why no device was opened
abbrev pub IsNoDevice : PlaceView → PlaceView → NoDevice → Type 0
IsNoDevice old new why.Failed = OpeningFails old new
IsNoDevice old new why.OutOfMemory = new ≡ old

-- a device of rows with so many faults was given back
abbrev pub GivenBack : ℕ → PlaceView → PlaceView → Type 0
GivenBack faults old new = (faults ≡ 0 → new ≡ rows_returned old) × (0 < faults → RowsFail old new)

-- a keeper that told this and had so many faults was given back
abbrev pub KeeperBack : Option Kept → ℕ → PlaceView → PlaceView → Type 0
KeeperBack kept faults old new = (faults ≡ 0 → new ≡ keeper_given kept old) × (0 < faults → KeeperFails kept old new)

-- a door that told this and had so many faults was given back
abbrev pub DoorBack : Option (List Back) → ℕ → PlaceView → PlaceView → Type 0
DoorBack returned faults old new = (faults ≡ 0 → new ≡ door_returned returned old) × (0 < faults → DoorFails returned old new)

-- the counts of a place are as they were, but that of keepers
pub record KeepsCounts (old new : PlaceView) : Type 0 where
  pub own : new.faults ≡ old.faults
  pub rows : new.rows_faults ≡ old.rows_faults
  pub doors : new.door_faults ≡ old.door_faults

-- a keeper has what was told of its store beforehand; of a store that is not there none was opened
abbrev pub HoldsTold : Known Kept → Option Kept → Type 0
HoldsTold untold kept = Unit {0}
HoldsTold absent kept = ⊥
HoldsTold (there store) kept = kept ≡ Some store

-- what a store holds that was made: no row, no count, and the number 0
abbrev pub new_store : Stored
new_store = record { rows = []; counts = []; head = 0 }

-- a keeper has what was told of its store beforehand; of a store that is not there a new one was made
abbrev pub HoldsMade : Known Kept → Option Kept → Type 0
HoldsMade untold kept = Unit {0}
HoldsMade absent kept = kept ≡ Some (made_of new_store)
HoldsMade (there store) kept = kept ≡ Some store

-- a device has what was told of it beforehand; of a file that is not there none was opened
abbrev pub HasTold : Known (List ℕ) → Option (List ℕ) → Type 0
HasTold untold left = Unit {0}
HasTold absent left = ⊥
HasTold (there bytes) left = left ≡ Some bytes

-- ---- a place in memory

-- the first file of that path
abbrev pub file_at : List File → List ℕ → Option File
file_at files path = find (λ f. bytes_eq f.path path) files

-- its bytes
abbrev pub bytes_at : List File → List ℕ → Option (List ℕ)
bytes_at files path = option_map (λ (f : File). f.bytes) (file_at files path)

-- the first store of that path
abbrev pub store_at : List Store → List ℕ → Option Store
store_at stores path = find (λ s. bytes_eq s.path path) stores

-- what it holds
abbrev pub held_at : List Store → List ℕ → Option Kept
held_at stores path = option_map (λ (s : Store). made_of s.stored) (store_at stores path)

-- what a keeper tells
abbrev pub kept_of : Option MemoryKeeper → Option Kept
kept_of keeper = option_map (λ (k : MemoryKeeper). k.kept) keeper

-- The next opening fails: it is listed, or what is to be opened is not there.
abbrev pub opening_fails : Memory → Bool → Bool
opening_fails m missing = list_any (λ listed. listed == up m.opened) m.failing || missing

-- one more opening, which didn't fail
abbrev pub opening_passed : Memory → Memory
opening_passed m = record m { opened = up m.opened }

-- one more, which failed
abbrev pub opening_failed : Memory → Memory
opening_failed m = record m { opened = up m.opened; faults = up m.faults }

-- an opening that gave nothing, by whether it was to fail
abbrev pub IsUnopened : Bool → Memory → Memory → NoDevice → Type 0
IsUnopened fails old new why.Failed = (fails ≡ true) × (new ≡ opening_failed old)
IsUnopened fails old new why.OutOfMemory = (fails ≡ false) × (new ≡ opening_passed old)

-- the device of a file
abbrev pub source_of : File → Input
source_of f = record { left = f.bytes; piece = 4096; calls = fresh f.failing }

-- the keeper of a store
abbrev pub keeper_of : Store → MemoryKeeper
keeper_of s = record { kept = made_of s.stored; calls = fresh_keeper s.failing }

-- that of one that is made
abbrev pub keeper_or_new : Option Store → MemoryKeeper
keeper_or_new None = record { kept = made_of new_store; calls = fresh_keeper [] }
keeper_or_new (Some s) = keeper_of s

abbrev pub memory_view : Memory → PlaceView
memory_view m = record {
  moments = Some m.moments;
  words = Some m.words;
  file = λ path. known (bytes_at m.files path);
  store = λ path. known (held_at m.stores path);
  doors = Some m.ports;
  rows_out = m.rows_out;
  returned = kept_of m.returned;
  doors_back = Some (map (λ door. door.returned) m.doors_back);
  doors_out = m.doors_out;
  faults = m.faults;
  rows_faults = m.rows_faults;
  keeper_faults = m.keeper_faults;
  door_faults = m.door_faults;
}

abbrev pub system_view : System → PlaceView
system_view s = record {
  moments = None;
  words = None;
  file = λ _. untold;
  store = λ _. untold;
  doors = None;
  rows_out = s.rows_out;
  returned = None;
  doors_back = None;
  doors_out = s.doors_out;
  faults = s.faults;
  rows_faults = s.rows_faults;
  keeper_faults = s.keeper_faults;
  door_faults = s.door_faults;
}
