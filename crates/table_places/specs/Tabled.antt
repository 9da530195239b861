-- A place whose store lies in a database, over another place for all else.
use Rattle.std.specs.Prelude.{ℕ, List, Option, ◌≡◌, ◌≤◌, if◌then◌else◌, option_map, IfSome, refl}
use Rattle.std.specs.Coded.{Coded, code_by, coded×, coded_ℕ, coded_list, coded_option}
use Rattle.std.specs.Str.{bytes_eq}
use Rattle.site_keeper.specs.Keeper.{Kept, held_of}
use Rattle.site_keeper.specs.Memory.{made_of}
use Rattle.site_keeper.specs.contracts.stored.Stored as stored
use Rattle.site_keeper.specs.declared.stored.Stored.{Stored}
use Rattle.site_io.specs.Told.{Rose}
use Rattle.site_places.specs.declared.place.NoDevice.{NoDevice}
use Rattle.site_places.specs.declared.place.NoDevice.TheVariants as why
use Rattle.site_places.specs.Place.{Known, absent, there, PlaceView}
use Rattle.sqlite.specs.Held.{Held, state}
use Rattle.sqlite.specs.Store.{Ghosts}
use Rattle.table_places.specs.Telling.{HoldsIfClean, Telling, telling_code}

-- The other place; the path of the store, and what the database stood for when it was handed in; the keeper over it that is to
-- be opened, and the one that was given back last; how often it failed to open a device, and how often a keeper was given back
-- that had failed.
pub record Tabled (P H : Type 0) : Type 0 where
  pub place : P
  pub path : List ℕ
  pub listed : Stored
  pub store : Option (Telling H)
  pub returned : Option (Telling H)
  pub faults : ℕ
  pub keeper_faults : ℕ

abbrev pub tabled_code : {P H : Type 0} → Coded P → Coded H → Coded (Tabled P H)
tabled_code {P} {H} place conn =
    code_by (P × (List ℕ × (Stored × (Option (Telling H) × (Option (Telling H) × (ℕ × ℕ))))))
    (coded× place (coded× (coded_list coded_ℕ) (coded× stored.the_row.coded (coded× (coded_option (telling_code conn)) (coded× (coded_option (telling_code conn)) (coded× coded_ℕ coded_ℕ))))))
    (λ t. (t.place, (t.path, (t.listed, (t.store, (t.returned, (t.faults, t.keeper_faults)))))))
    (λ p. record { place = p.0; path = p.1.0; listed = p.1.1.0; store = p.1.1.1.0; returned = p.1.1.1.1.0; faults = p.1.1.1.1.1.0; keeper_faults = p.1.1.1.1.1.1 })
    (λ _. refl)

-- what it says beforehand of the store of a path: what the database stood for, or that there is none
abbrev pub store_of : List ℕ → Stored → List ℕ → Known Kept
store_of here listed path = if bytes_eq path here then there (made_of listed) else absent

-- what a keeper tells that was given back
abbrev pub kept_of : {H : Type 0} → Option (Telling H) → Option Kept
kept_of keeper = option_map (λ k. k.kept) keeper

-- what it gives and took back, by what the other place does
abbrev pub table_view : {P H : Type 0} → PlaceView → Tabled P H → PlaceView
table_view view t = record view {
  store = store_of t.path t.listed;
  returned = kept_of t.returned;
  faults = t.faults;
  keeper_faults = t.keeper_faults;
}

-- the keeper that is to be opened tells what the database stood for, and hasn't failed
pub record IsListed {H : Type 0} (listed : Stored) (keeper : Telling H) : Type 0 where
  pub kept : keeper.kept ≡ made_of listed
  pub unused : keeper.faults ≡ 0

-- the count of openings that failed rose exactly where the place failed
abbrev pub CountsDevice : NoDevice → ℕ → ℕ → Type 0
CountsDevice why.Failed old new = Rose old new × (old ≤ new)
CountsDevice why.OutOfMemory old new = new ≡ old

-- the database of the keeper that was given back stands for what that tells
abbrev pub ReturnedHolds : {P S : Type 0} → Ghosts S → Tabled P (Held S) → Type 0
ReturnedHolds g t = IfSome t.returned (λ k. HoldsIfClean (state g k.conn) (held_of k.kept))
