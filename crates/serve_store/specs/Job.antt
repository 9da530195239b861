-- What the job of serving does, by how it ends.
use Rattle.std.specs.Prelude.{ℕ, List, [], ◌≡◌, ◌≤◌, ◌<◌, ◌⊎◌, length, Bool, true, false, Option, None}
use Rattle.std.specs.String.{string_bytes}
use Rattle.site_io.specs.Told.{after, AddsFront, Rose}
use Rattle.site_keeper.specs.Keeper.{Kept}
use Rattle.site_hall.specs.Hall.{HallView, IsHall}
use Rattle.site_jobs.specs.Ground.{Holds, IsSite, IsNoSiteOf}
use Rattle.site_jobs.specs.Jobs.{IsNoBase, Prints}
use Rattle.site_jobs.specs.declared.fault.NoJob.{NoJob}
use Rattle.site_jobs.specs.declared.fault.NoJob.TheVariants as none
use Rattle.site_places.specs.Place.{PlaceView, keeper_given, HoldsTold, IsNoDevice, KeeperFails, KeepsCounts}
use Rattle.site_places.specs.declared.place.NoDevice.{NoDevice}
use Rattle.site_places.specs.declared.place.NoDevice.TheVariants as device
use Rattle.site_serve.specs.Serving.{HaveServed, GoesOn}
use Rattle.site_serve.specs.Stations.{StationView}
use Rattle.serve_store.specs.declared.serving.Serving.{Serving}
use Rattle.serve_store.specs.declared.ending.ServeEnd.{ServeEnd}
use Rattle.serve_store.specs.declared.ending.ServeEnd.TheVariants as end
use Rattle.serve_store.specs.Stations.{StationsGiven, StopsShort, AllBack}
use Rattle.serve_store.specs.Texts.{listening_text, served_text}
use Rattle.serve_store.specs.Warming.{place_then, written_then, IsReady, StopsBy}

-- what is to be served: the store of a path, at an address, by so many workers, how many connections, and whether pages are rendered
-- before
pub record ToServe : Type 0 where
  pub store : List ℕ
  pub address : List ℕ
  pub workers : ℕ
  pub limit : ℕ
  pub warm : Bool

abbrev pub to_serve : Serving → ToServe
to_serve serving = record {
  store = string_bytes serving.store;
  address = string_bytes serving.address;
  workers = serving.workers;
  limit = serving.limit;
  warm = serving.warm;
}

-- what stands before the job: what is written to its output, how often that failed, and its place
pub record Front : Type 0 where
  pub written : Option (List ℕ)
  pub writing : ℕ
  pub place : PlaceView

-- ---- at open stations

-- A worker at each of these stations served the connections of its door, over this engine, and all was given back. Each stopped
-- because no connection was left to take, and then as many were served as there were; or some stopped for their doors, and they
-- were fewer.
pub record ServedAt (what : ToServe) (hall : HallView) (stations : List StationView) (whole : Bool) (old new : PlaceView) : Type 0 where
  pub hall-after : HallView
  pub stations-after : List StationView
  pub count : ℕ
  pub served : HaveServed hall hall-after stations stations-after count whole
  pub goes_on : GoesOn hall hall-after (length stations)
  pub is_hall : IsHall hall-after
  pub all : whole ≡ true → count ≡ what.limit
  pub fewer : whole ≡ false → count < what.limit
  pub back : AllBack stations-after hall-after.kept hall-after.faults old new

-- how it ends once the workers have stopped, and what is printed then
abbrev pub PrintsCount : Bool → List ℕ → ServeEnd → Option (List ℕ) → Option (List ℕ) → Type 0
PrintsCount whole text end.Served old new = (whole ≡ true) × (new ≡ after old text)
PrintsCount whole text end.OutputFailed old new = (whole ≡ true) × AddsFront old new text
PrintsCount whole text end.PlaceFailed old new = (whole ≡ false) × (new ≡ old)
PrintsCount whole text end.OutOfMemory old new = ⊥
PrintsCount whole text end.Refused old new = ⊥
PrintsCount whole text end.KeeperFailed old new = ⊥

-- nothing was served, and all was given back
abbrev pub ServedNone : HallView → List StationView → PlaceView → PlaceView → Type 0
ServedNone hall stations old new = AllBack stations hall.kept hall.faults old new

-- what workers did at open stations, by how it ended, and what was printed then
abbrev pub WorksAt : ToServe → HallView → List StationView → ServeEnd → Front → Front → Type 0
WorksAt what hall stations end.Served old new =
    ServedAt what hall stations true old.place new.place × (new.written ≡ after old.written (served_text what.limit))
WorksAt what hall stations end.OutputFailed old new =
    ServedAt what hall stations true old.place new.place × AddsFront old.written new.written (served_text what.limit)
WorksAt what hall stations end.PlaceFailed old new = ServedAt what hall stations false old.place new.place × (new.written ≡ old.written)
WorksAt what hall stations end.OutOfMemory old new = ServedNone hall stations old.place new.place × (new.written ≡ old.written)
WorksAt what hall stations end.Refused old new = ⊥
WorksAt what hall stations end.KeeperFailed old new = ⊥

-- what is printed once the doors are open
abbrev pub then_listening : ToServe → Front → Option (List ℕ)
then_listening what front = after front.written (listening_text what.address)

-- that wasn't printed whole
pub record StopsListening (what : ToServe) (hall : HallView) (stations : List StationView) (ended : ServeEnd) (old new : Front) : Type 0 where
  pub ended_is : ended ≡ end.OutputFailed
  pub front : AddsFront old.written new.written (listening_text what.address)
  pub back : ServedNone hall stations old.place new.place

-- it was, and then it ended before the workers started
pub record StopsWarming (what : ToServe) (hall : HallView) (stations : List StationView) (ended : ServeEnd) (old new : Front) : Type 0 where
  pub asked : what.warm ≡ true
  pub stops : StopsBy ended hall (then_listening what old) new.written
  pub back : ServedNone hall stations (place_then true old.place) new.place

-- the workers started, over the engine with the pages that were rendered, if that was asked for
pub record ServesReady (what : ToServe) (hall : HallView) (stations : List StationView) (ended : ServeEnd) (old new : Front) : Type 0 where
  pub hall-then : HallView
  pub is_ready : IsReady what.warm old.place hall hall-then
  pub does :
      WorksAt what hall-then stations ended
      (record old { written = written_then what.warm hall (then_listening what old); place = place_then what.warm old.place }) new

-- what was done at open stations, by how it ended
abbrev pub ServesOpen : ToServe → HallView → List StationView → ServeEnd → Front → Front → Type 0
ServesOpen what hall stations ended old new =
    StopsListening what hall stations ended old new
    ⊎ (StopsWarming what hall stations ended old new ⊎ ServesReady what hall stations ended old new)

-- ---- over the site

-- how it ends where a device wasn't opened
abbrev pub end_of : NoDevice → ServeEnd
end_of device.Failed = end.PlaceFailed
end_of device.OutOfMemory = end.OutOfMemory

-- a station for each worker was opened
pub record OpensStations (what : ToServe) (hall : HallView) (ended : ServeEnd) (old new : Front) : Type 0 where
  pub stations : List StationView
  pub given : PlaceView
  pub stations_are : StationsGiven what.address stations old.place given
  pub workers : length stations ≡ what.workers
  pub does : ServesOpen what hall stations ended (record old { place = given }) new

-- some were, and then a door wasn't; all was given back, and nothing was printed
pub record StopsAtDoor (what : ToServe) (hall : HallView) (ended : ServeEnd) (old new : Front) : Type 0 where
  pub stations : List StationView
  pub why : NoDevice
  pub by-then : PlaceView
  pub short : StopsShort what.address stations why old.place by-then
  pub back : ServedNone hall stations by-then new.place
  pub printed : new.written ≡ old.written
  pub ended_is : ended ≡ end_of why

abbrev pub ServesHall : ToServe → HallView → ServeEnd → Front → Front → Type 0
ServesHall what hall ended old new = OpensStations what hall ended old new ⊎ StopsAtDoor what hall ended old new

-- ---- over the store

-- an engine over the site that a keeper holds, which told this and had failed so often: nothing was edited yet
pub record IsOpened (kept : Option Kept) (faults : ℕ) (hall : HallView) : Type 0 where
  pub base : Holds kept hall.base
  pub site : IsSite hall.base
  pub log : hall.log ≡ []
  pub pending : hall.pending ≡ None
  pub opened : hall.opened ≡ kept
  pub kept_is : hall.kept ≡ kept
  pub faults_is : hall.faults ≡ faults

-- the site of the store was opened
pub record OpensSite (what : ToServe) (kept : Option Kept) (ended : ServeEnd) (old new : Front) : Type 0 where
  pub hall : HallView
  pub hall_is : IsOpened kept 0 hall
  pub does : ServesHall what hall ended old new

-- What the store holds is no site, and the first fault was printed; or the keeper failed, or memory was wanting, and nothing was.
-- The keeper was given back.
abbrev pub TellsWhy : NoJob → Option Kept → ServeEnd → Front → Front → Type 0
TellsWhy (none.Refused text) kept ended old new =
    (ended ≡ end.Refused) × Prints text old.written new.written old.writing new.writing × (new.place ≡ keeper_given kept old.place)
TellsWhy none.Keeper kept ended old new = (ended ≡ end.KeeperFailed) × (new.written ≡ old.written) × KeeperFails kept old.place new.place
TellsWhy none.Input kept ended old new = ⊥
TellsWhy none.OutOfMemory kept ended old new = (ended ≡ end.OutOfMemory) × (new.written ≡ old.written) × (new.place ≡ keeper_given kept old.place)

pub record FindsNoSite (kept : Option Kept) (ended : ServeEnd) (old new : Front) : Type 0 where
  pub why : NoJob
  pub none : IsNoBase IsNoSiteOf kept why
  pub tells : TellsWhy why kept ended old new

-- the store was opened, and its keeper told this
pub record OpensStore (what : ToServe) (ended : ServeEnd) (old new : Front) : Type 0 where
  pub kept : Option Kept
  pub told : HoldsTold (old.place.store what.store) kept
  pub does : OpensSite what kept ended old new ⊎ FindsNoSite kept ended old new

-- it wasn't, or memory was wanting before, and nothing was printed
pub record OpensNoStore (ended : ServeEnd) (old new : Front) : Type 0 where
  pub why : NoDevice
  pub stops : IsNoDevice old.place new.place why
  pub printed : new.written ≡ old.written
  pub ended_is : ended ≡ end_of why

abbrev pub ServesStore : ToServe → ServeEnd → Front → Front → Type 0
ServesStore what ended old new = OpensStore what ended old new ⊎ OpensNoStore ended old new

-- ---- counts of faults

-- the output's count rose exactly where it failed, but that printing why rows are refused may fail too
abbrev pub OutputRises : ServeEnd → ℕ → ℕ → Type 0
OutputRises end.OutputFailed old new = Rose old new
OutputRises end.Refused old new = old ≤ new
OutputRises _ old new = new ≡ old

-- A count of the place rose exactly where the place failed; all but that of keepers are as they were else.
abbrev pub PlaceRises : ServeEnd → PlaceView → PlaceView → Type 0
PlaceRises end.PlaceFailed old new = Rose old.faults new.faults ⊎ Rose old.door_faults new.door_faults
PlaceRises _ old new = KeepsCounts old new

-- That of keepers rose where the keeper failed to load; it may also rise where the keeper failed at an edit, and never falls.
abbrev pub KeeperRises : ServeEnd → ℕ → ℕ → Type 0
KeeperRises end.KeeperFailed old new = Rose old new × (old ≤ new)
KeeperRises _ old new = old ≤ new
