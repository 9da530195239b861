-- Stations that a place gives, and takes back.
use Rattle.std.specs.Prelude.{ℕ, List, [], ◌∷◌, ◌≡◌, ◌<◌, ◌⊎◌, false, Option}
use Rattle.site_places.specs.Place.{PlaceView, next_list, none_given, clock_given, door_given, entropy_given, IsDoorAt, IsNoDevice, IsNoneBack, IsNoneReached, DoorBack, KeeperBack}
use Rattle.site_places.specs.declared.place.NoDevice.{NoDevice}
use Rattle.site_keeper.specs.Keeper.{Kept}
use Rattle.site_serve.specs.Stations.{StationView}

-- A station that a place gives: the next door of an address, with the next clock, entropy and gate. Nothing happened at it yet.
pub record IsStationAt (address : List ℕ) (place : PlaceView) (station : StationView) : Type 0 where
  pub door : IsDoorAt place.doors address station.coming
  pub none_back : IsNoneBack station.returned
  pub none_out : station.is_out ≡ false
  pub unused : station.faults ≡ 0
  pub moments : station.moments ≡ next_list place.moments
  pub clock : station.given ≡ none_given (next_list place.moments)
  pub chances : station.chances ≡ next_list place.words
  pub chance : station.words ≡ none_given (next_list place.words)
  pub gate : IsNoneReached station.points

-- the place once it gave one
abbrev pub station_given : List ℕ → PlaceView → PlaceView
station_given address place = entropy_given (clock_given (door_given address place))

-- a place gave these stations at an address, one after the other
abbrev pub StationsGiven : List ℕ → List StationView → PlaceView → PlaceView → Type 0
StationsGiven address [] old new = new ≡ old
StationsGiven address (station ∷ stations) old new = IsStationAt address old station × StationsGiven address stations (station_given address old) new

-- nothing happened at these stations yet, as far as their doors tell
pub record IsUnused (station : StationView) : Type 0 where
  pub none_out : station.is_out ≡ false
  pub unused : station.faults ≡ 0

abbrev pub AreUnused : List StationView → Type 0
AreUnused [] = Unit {0}
AreUnused (station ∷ stations) = IsUnused station × AreUnused stations

-- one of their doors has failed
abbrev pub HasFailed : List StationView → Type 0
HasFailed [] = ⊥
HasFailed (station ∷ stations) = (0 < station.faults) ⊎ HasFailed stations

-- of so many these stations were given, and then a door wasn't, for this reason
pub record StopsShort (address : List ℕ) (stations : List StationView) (why : NoDevice) (old new : PlaceView) : Type 0 where
  pub given : PlaceView
  pub stations_are : StationsGiven address stations old given
  pub stops : IsNoDevice given new why

-- the door of a station was given back, and then what comes after
pub record DoorThen (station : StationView) (old : PlaceView) (After : PlaceView → Type 0) : Type 0 where
  pub middle : PlaceView
  pub back : DoorBack station.returned station.faults old middle
  pub then : After middle

-- the doors of these stations were given back, one after the other
abbrev pub DoorsBack : List StationView → PlaceView → PlaceView → Type 0
DoorsBack [] old new = new ≡ old
DoorsBack (station ∷ stations) old new = DoorThen station old (λ middle. DoorsBack stations middle new)

-- the doors of these stations were given back, and then the keeper, which told this and had failed so often
pub record AllBack (stations : List StationView) (kept : Option Kept) (faults : ℕ) (old new : PlaceView) : Type 0 where
  pub middle : PlaceView
  pub doors : DoorsBack stations old middle
  pub keeper : KeeperBack kept faults middle new
