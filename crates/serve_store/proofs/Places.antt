-- What giving stations, and taking them back, does to a place.
use Rattle.std.proofs.Common.{◌≡◌, ◌∙◌, ℕ, Bool, true, false, zero, suc, ◌+◌, ◌-◌, ◌<◌, ◌≤◌, List, [], ◌∷◌, ◌++◌, length, ◌⊎◌, inl, inr, Option, refl, sym, ap, subst, arith}
use Rattle.site_io.specs.Told.{Rose}
use Rattle.site_hall.specs.Hall.{HallView}
use Rattle.site_keeper.specs.Keeper.{Kept}
use Rattle.std.specs.List.{All}
use Rattle.std.proofs.lemmas.List.Elements.{All-cons, All-nil}
use Rattle.site_places.specs.Place.{PlaceView, DoorBack, IsNoDevice, KeeperBack, KeepsCounts}
use Rattle.site_places.specs.declared.place.NoDevice.{NoDevice}
use Rattle.site_places.specs.declared.place.NoDevice.TheVariants as why
use Rattle.site_serve.specs.Stations.{StationView}
use Rattle.serve_store.specs.Stations.{station_given, AllBack, AreUnused, DoorsBack, HasFailed, IsStationAt, StationsGiven, StopsShort}
use Rattle.serve_store.specs.Job.{KeeperRises, PlaceRises}
use Rattle.serve_store.specs.Warming.{place_then, StopsBy}
use Rattle.serve_store.specs.declared.ending.ServeEnd.{ServeEnd}
use Rattle.serve_store.specs.declared.ending.ServeEnd.TheVariants as end

-- ---- giving

pub given_more : (address : List ℕ) (stations : List StationView) (station : StationView) (old middle new : PlaceView) → StationsGiven address stations old middle → IsStationAt address middle station → new ≡ station_given address middle
    → StationsGiven address (stations ++ station ∷ []) old new
given_more address [] station old middle new given at is = (subst (λ (p : PlaceView). IsStationAt address p station) given at, is ∙ ap (station_given address) given)
given_more address (first ∷ others) station old middle new given at is = (given.0, given_more address others station (station_given address old) middle new given.1 at is)

-- the counts are as they were, and so many doors more are out
pub record GivesSo (old new : PlaceView) (count : ℕ) : Type 0 where
  pub keeps : KeepsCounts old new
  pub keepers : new.keeper_faults ≡ old.keeper_faults
  pub out : new.doors_out ≡ old.doors_out + count

pub given_counts : (address : List ℕ) (stations : List StationView) (old new : PlaceView) → StationsGiven address stations old new → GivesSo old new (length stations)
given_counts address [] old new given = record {
  keeps = record { own = ap (λ (p : PlaceView). p.faults) given; rows = ap (λ (p : PlaceView). p.rows_faults) given; doors = ap (λ (p : PlaceView). p.door_faults) given };
  keepers = ap (λ (p : PlaceView). p.keeper_faults) given;
  out = let is = ap (λ (p : PlaceView). p.doors_out) given in omega arith;
}
given_counts address (station ∷ stations) old new given =
    let rest = given_counts address stations (station_given address old) new given.1 in
    let out = rest.out in
    record { keeps = record { own = rest.keeps.own; rows = rest.keeps.rows; doors = rest.keeps.doors }; keepers = rest.keepers; out = omega arith }

pub given_unused : (address : List ℕ) (stations : List StationView) (old new : PlaceView) → StationsGiven address stations old new → AreUnused stations
given_unused address [] old new given = tt
given_unused address (station ∷ stations) old new given =
    (record { none_out = given.0.none_out; unused = given.0.unused }, given_unused address stations (station_given address old) new given.1)

-- ---- taking back

pub back_more : (stations : List StationView) (station : StationView) (old middle new : PlaceView) → DoorsBack stations old middle → DoorBack station.returned station.faults middle new → DoorsBack (stations ++ station ∷ []) old new
back_more [] station old middle new back last = record { middle = new; back = subst (λ (p : PlaceView). DoorBack station.returned station.faults p new) back last; then = refl }
back_more (first ∷ others) station old middle new back last = record { middle = back.middle; back = back.back; then = back_more others station back.middle middle new back.then last }

-- what one door does that is given back, by its faults
record GivesOne (faults : ℕ) (old new : PlaceView) : Type 0 where
  own : new.faults ≡ old.faults
  rows : new.rows_faults ≡ old.rows_faults
  keepers : new.keeper_faults ≡ old.keeper_faults
  doors : old.door_faults ≤ new.door_faults
  steady : faults ≡ 0 → new.door_faults ≡ old.door_faults
  rose : 0 < faults → Rose old.door_faults new.door_faults
  out : new.doors_out ≡ old.doors_out - 1

one_back : (station : StationView) (faults : ℕ) (old new : PlaceView) → DoorBack station.returned faults old new → GivesOne faults old new
one_back station zero old new back =
    let is = back.0 refl in
    let same = ap (λ (p : PlaceView). p.door_faults) is in
    record {
      own = ap (λ (p : PlaceView). p.faults) is;
      rows = ap (λ (p : PlaceView). p.rows_faults) is;
      keepers = ap (λ (p : PlaceView). p.keeper_faults) is;
      doors = omega arith;
      steady = λ _. same;
      rose = λ above. absurd (omega arith);
      out = ap (λ (p : PlaceView). p.doors_out) is;
    }
one_back station (suc faults) old new back =
    let fails = back.1 (omega arith) in
    record {
      own = ap (λ (p : PlaceView). p.faults) fails.same;
      rows = ap (λ (p : PlaceView). p.rows_faults) fails.same;
      keepers = ap (λ (p : PlaceView). p.keeper_faults) fails.same;
      doors = fails.never_falls;
      steady = λ none. absurd (omega arith);
      rose = λ _. fails.rose;
      out = ap (λ (p : PlaceView). p.doors_out) fails.same;
    }

-- what all do
pub record GivesAll (stations : List StationView) (old new : PlaceView) : Type 0 where
  pub own : new.faults ≡ old.faults
  pub rows : new.rows_faults ≡ old.rows_faults
  pub keepers : new.keeper_faults ≡ old.keeper_faults
  pub doors : old.door_faults ≤ new.door_faults
  pub steady : AreUnused stations → new.door_faults ≡ old.door_faults
  pub rose : HasFailed stations → Rose old.door_faults new.door_faults
  pub out : new.doors_out ≡ old.doors_out - length stations

rose_first : (old middle new : ℕ) → Rose old middle → middle ≤ new → Rose old new
rose_first old middle new rose up = omega arith

rose_later : (old middle new : ℕ) → old ≤ middle → Rose middle new → Rose old new
rose_later old middle new up rose = omega arith

-- one that has failed is the first, or one of the others
rises : (station : StationView) (stations : List StationView) (old middle new : PlaceView) → GivesOne station.faults old middle → GivesAll stations middle new → (0 < station.faults) ⊎ HasFailed stations → Rose old.door_faults new.door_faults
rises station stations old middle new one rest (inl above) = rose_first old.door_faults middle.door_faults new.door_faults (one.rose above) rest.doors
rises station stations old middle new one rest (inr failed) = rose_later old.door_faults middle.door_faults new.door_faults one.doors (rest.rose failed)

pub back_counts : (stations : List StationView) (old new : PlaceView) → DoorsBack stations old new → GivesAll stations old new
back_counts [] old new back =
    let same = ap (λ (p : PlaceView). p.door_faults) back in
    let out = ap (λ (p : PlaceView). p.doors_out) back in
    record {
      own = ap (λ (p : PlaceView). p.faults) back;
      rows = ap (λ (p : PlaceView). p.rows_faults) back;
      keepers = ap (λ (p : PlaceView). p.keeper_faults) back;
      doors = omega arith;
      steady = λ _. same;
      rose = λ failed. absurd failed;
      out = omega arith;
    }
back_counts (station ∷ stations) old new back =
    let one = one_back station station.faults old back.middle back.back in
    let rest = back_counts stations back.middle new back.then in
    let up = one.doors in
    let later = rest.doors in
    let out = one.out in
    let others = rest.out in
    record {
      own = rest.own ∙ one.own;
      rows = rest.rows ∙ one.rows;
      keepers = rest.keepers ∙ one.keepers;
      doors = omega arith;
      steady = λ unused. rest.steady unused.1 ∙ one.steady unused.0.unused;
      rose = rises station stations old back.middle new one rest;
      out = omega arith;
    }

-- ---- all is given back

-- what a keeper does that is given back
record GivesKeeper (old new : PlaceView) : Type 0 where
  own : new.faults ≡ old.faults
  rows : new.rows_faults ≡ old.rows_faults
  doors : new.door_faults ≡ old.door_faults
  keepers : old.keeper_faults ≤ new.keeper_faults

keeper_counts : (kept : Option Kept) (faults : ℕ) (old new : PlaceView) → KeeperBack kept faults old new → GivesKeeper old new
keeper_counts kept zero old new back =
    let is = back.0 refl in
    let same = ap (λ (p : PlaceView). p.keeper_faults) is in
    record { own = ap (λ (p : PlaceView). p.faults) is; rows = ap (λ (p : PlaceView). p.rows_faults) is; doors = ap (λ (p : PlaceView). p.door_faults) is; keepers = omega arith }
keeper_counts kept (suc faults) old new back =
    let fails = back.1 (omega arith) in
    record { own = ap (λ (p : PlaceView). p.faults) fails.same; rows = ap (λ (p : PlaceView). p.rows_faults) fails.same; doors = ap (λ (p : PlaceView). p.door_faults) fails.same; keepers = fails.never_falls }

-- what all do
pub record GivesEach (stations : List StationView) (old new : PlaceView) : Type 0 where
  pub own : new.faults ≡ old.faults
  pub rows : new.rows_faults ≡ old.rows_faults
  pub steady : AreUnused stations → new.door_faults ≡ old.door_faults
  pub rose : HasFailed stations → Rose old.door_faults new.door_faults
  pub keepers : old.keeper_faults ≤ new.keeper_faults

pub all_counts : (stations : List StationView) (kept : Option Kept) (faults : ℕ) (old new : PlaceView) → AllBack stations kept faults old new → GivesEach stations old new
all_counts stations kept faults old new back =
    let doors = back_counts stations old back.middle back.doors in
    let keeper = keeper_counts kept faults back.middle new back.keeper in
    let same = doors.keepers in
    let up = keeper.keepers in
    record {
      own = keeper.own ∙ doors.own;
      rows = keeper.rows ∙ doors.rows;
      steady = λ unused. keeper.doors ∙ doors.steady unused;
      rose = λ failed. subst (λ (n : ℕ). Rose old.door_faults n) (sym keeper.doors) (doors.rose failed);
      keepers = omega arith;
    }

-- with stations at which nothing happened
pub none_counts : (stations : List StationView) (kept : Option Kept) (faults : ℕ) (old new : PlaceView) → AreUnused stations → AllBack stations kept faults old new → KeepsCounts old new
none_counts stations kept faults old new unused back =
    let all = all_counts stations kept faults old new back in
    record { own = all.own; rows = all.rows; doors = all.steady unused }

-- ---- how many

pub many_more : (stations : List StationView) (station : StationView) (count : ℕ) → length stations ≡ count → length (stations ++ station ∷ []) ≡ count + 1
many_more [] station count is = omega arith
many_more (first ∷ others) station zero is = absurd (omega arith)
many_more (first ∷ others) station (suc count) is = let rest = many_more others station count (omega arith) in omega arith

-- no connection is out at any
pub none_out : (stations : List StationView) → AreUnused stations → All (λ (s : StationView). s.is_out ≡ false) stations
none_out [] unused = All-nil (λ (s : StationView). s.is_out ≡ false)
none_out (station ∷ stations) unused = All-cons (λ (s : StationView). s.is_out ≡ false) station stations unused.0.none_out (none_out stations unused.1)

-- ---- counts from before the stations were given

both_keep : (old middle new : PlaceView) → KeepsCounts old middle → KeepsCounts middle new → KeepsCounts old new
both_keep old middle new first second = record { own = second.own ∙ first.own; rows = second.rows ∙ first.rows; doors = second.doors ∙ first.doors }

doors_stay : (why : NoDevice) (old new : PlaceView) → IsNoDevice old new why → new.doors_out ≡ old.doors_out
doors_stay why.Failed old new stops = ap (λ (p : PlaceView). p.doors_out) stops.same
doors_stay why.OutOfMemory old new stops = ap (λ (p : PlaceView). p.doors_out) stops

keepers_stay : (why : NoDevice) (old new : PlaceView) → IsNoDevice old new why → new.keeper_faults ≡ old.keeper_faults
keepers_stay why.Failed old new stops = ap (λ (p : PlaceView). p.keeper_faults) stops.same
keepers_stay why.OutOfMemory old new stops = ap (λ (p : PlaceView). p.keeper_faults) stops

pub place_since : (ended : ServeEnd) (old middle new : PlaceView) → KeepsCounts old middle → PlaceRises ended middle new → PlaceRises ended old new
place_since end.PlaceFailed old middle new kept (inl rose) = inl (subst (λ (n : ℕ). Rose n new.faults) kept.own rose)
place_since end.PlaceFailed old middle new kept (inr rose) = inr (subst (λ (n : ℕ). Rose n new.door_faults) kept.doors rose)
place_since end.Served old middle new kept rises = both_keep old middle new kept rises
place_since end.Refused old middle new kept rises = both_keep old middle new kept rises
place_since end.KeeperFailed old middle new kept rises = both_keep old middle new kept rises
place_since end.OutputFailed old middle new kept rises = both_keep old middle new kept rises
place_since end.OutOfMemory old middle new kept rises = both_keep old middle new kept rises

pub keeper_since : (ended : ServeEnd) (old middle new : ℕ) → middle ≡ old → KeeperRises ended middle new → KeeperRises ended old new
keeper_since ended old middle new is rises = subst (λ (n : ℕ). KeeperRises ended n new) is rises

-- ---- where a door wasn't opened

-- the doors that were given are out
pub short_out : (address : List ℕ) (stations : List StationView) (why : NoDevice) (old new : PlaceView) → StopsShort address stations why old new → length stations ≤ new.doors_out
short_out address stations why old new short =
    let out = (given_counts address stations old short.given short.stations_are).out in
    let same = doors_stay why short.given new short.stops in
    omega arith

-- so it is told by the count of the place
pub short_place : (address : List ℕ) (stations : List StationView) (old middle new : PlaceView) → StopsShort address stations why.Failed old middle → KeepsCounts middle new → Rose old.faults new.faults
short_place address stations old middle new short kept =
    let given = (given_counts address stations old short.given short.stations_are).keeps in
    let rose = short.stops.rose in
    subst (λ (n : ℕ). Rose n new.faults) given.own (subst (λ (n : ℕ). Rose short.given.faults n) (sym kept.own) rose)

pub short_keeps : (address : List ℕ) (stations : List StationView) (old middle new : PlaceView) → StopsShort address stations why.OutOfMemory old middle → KeepsCounts middle new → KeepsCounts old new
short_keeps address stations old middle new short kept =
    both_keep old middle new (subst (λ (p : PlaceView). KeepsCounts old p) (sym short.stops) (given_counts address stations old short.given short.stations_are).keeps) kept

pub short_keepers : (address : List ℕ) (stations : List StationView) (why : NoDevice) (old middle new : PlaceView) → StopsShort address stations why old middle → middle.keeper_faults ≤ new.keeper_faults → old.keeper_faults ≤ new.keeper_faults
short_keepers address stations why old middle new short up =
    let given = (given_counts address stations old short.given short.stations_are).keepers in
    let same = keepers_stay why short.given middle short.stops in
    omega arith

-- ---- counts once pages were rendered

-- a clock more, if any, is out
then_counts : (warm : Bool) (place : PlaceView) → GivesSo place (place_then warm place) 0
then_counts true place = record { keeps = record { own = refl; rows = refl; doors = refl }; keepers = refl; out = omega arith }
then_counts false place = record { keeps = record { own = refl; rows = refl; doors = refl }; keepers = refl; out = omega arith }

-- it ended before the workers started
pub stops_place : (ended : ServeEnd) (hall : HallView) (written written' : Option (List ℕ)) (old new : PlaceView) → StopsBy ended hall written written' → KeepsCounts old new → PlaceRises ended old new
stops_place end.OutputFailed hall written written' old new stops kept = kept
stops_place end.OutOfMemory hall written written' old new stops kept = kept
stops_place end.Served hall written written' old new stops kept = absurd stops
stops_place end.Refused hall written written' old new stops kept = absurd stops
stops_place end.KeeperFailed hall written written' old new stops kept = absurd stops
stops_place end.PlaceFailed hall written written' old new stops kept = absurd stops

pub stops_keeper : (ended : ServeEnd) (hall : HallView) (written written' : Option (List ℕ)) (old new : ℕ) → StopsBy ended hall written written' → old ≤ new → KeeperRises ended old new
stops_keeper end.OutputFailed hall written written' old new stops up = up
stops_keeper end.OutOfMemory hall written written' old new stops up = up
stops_keeper end.Served hall written written' old new stops up = absurd stops
stops_keeper end.Refused hall written written' old new stops up = absurd stops
stops_keeper end.KeeperFailed hall written written' old new stops up = absurd stops
stops_keeper end.PlaceFailed hall written written' old new stops up = absurd stops

pub counts_by : (warm : Bool) (old new : PlaceView) → new ≡ place_then warm old → GivesSo old new 0
counts_by warm old new is = subst (λ (p : PlaceView). GivesSo old p 0) (sym is) (then_counts warm old)
