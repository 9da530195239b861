-- What many workers do over one engine, and why they stop.
use Rattle.std.specs.Prelude.{ℕ, zero, suc, List, [], ◌∷◌, ◌≡◌, ◌⊎◌, Bool, true, false, All}
use Rattle.std.specs.List.{AllZip}
use Rattle.site_io.specs.Told.{Rose}
use Rattle.site_house.specs.History.{History, newest}
use Rattle.site_hall.specs.Hall.{HallView}
use Rattle.site_http.specs.Work.{Bench, ServesOne, around_of}
use Rattle.site_serve.specs.Stations.{StationView}
use Rattle.site_serve.specs.Serving.{Shift, IsShift, ServesOver, HaveServed, bench_of, history_in}
use Rattle.run_laws.specs.Complete.{IsComplete, StaysCounted}

-- ---- connections

-- a connection ended as its requests do, with a reply to each of them, where neither of its ends failed
abbrev pub IsWhole : (old new : Bench) → ServesOne old new → Type 0
IsWhole old new one =
    StaysCounted one.line.reading one.back.line.reading → StaysCounted one.line.writing one.back.line.writing
    → IsComplete one.back.end (around_of old one.line) (around_of new one.back.line) new.history 1000 (newest old.history)

-- so did each of so many, one after the other
abbrev pub AreWhole : (whole : History) (count : ℕ) (old new : Bench) → ServesOver whole count old new → Type 0
AreWhole whole zero old new served = Unit {0}
AreWhole whole (suc count) old new served =
    AreWhole whole count old served.middle served.before × IsWhole served.middle (record new { history = whole }) served.next

-- a worker served its connections, each of which did
pub record IsWholeShift (old new : HallView) (shift : Shift) : Type 0 where
  pub is : IsShift old new shift
  pub connections :
      AreWhole (history_in old shift.number new.log) shift.count
      (bench_of shift.before [] 0 (history_in old shift.number old.log))
      (bench_of shift.after shift.handed shift.keepers (history_in old shift.number shift.seen)) is.serves

-- ---- doors

-- no door's count of faults rose
abbrev pub NoDoorFails : List StationView → List StationView → Type 0
NoDoorFails before after = AllZip (λ old new. StaysCounted old.faults new.faults) before after

-- they are as they were
abbrev pub AreSteady : List StationView → List StationView → Type 0
AreSteady before after = AllZip (λ old new. new.faults ≡ old.faults) before after

-- one rose
abbrev pub SomeDoorFails : List StationView → List StationView → Type 0
SomeDoorFails [] after = ⊥
SomeDoorFails (old ∷ before) [] = ⊥
SomeDoorFails (old ∷ before) (new ∷ after) = Rose old.faults new.faults ⊎ SomeDoorFails before after

-- ---- all workers

-- What workers answer, and why. Each connection ends as its requests do, with a reply to each of them, where neither of its ends
-- failed; or memory was wanting. That all stopped because none was left to take comes exactly where no door's count of faults
-- rose, and the other answer where one did. That the keeper failed was answered only where the engine's count of its faults rose.
pub record AnswerFor (old new : HallView) (before after : List StationView) (whole : Bool) (shifts : List Shift) : Type 0 where
  pub each : All (IsWholeShift old new) shifts
  pub all : whole ≡ true → AreSteady before after
  pub some : whole ≡ false → SomeDoorFails before after
  pub exact : NoDoorFails before after → whole ≡ true
  pub keepers : StaysCounted old.faults new.faults → All (λ shift. shift.keepers ≡ 0) shifts

abbrev pub ServersComplete : Type 0
ServersComplete =
    (old new : HallView) (before after : List StationView) (count : ℕ) (whole : Bool) (served : HaveServed old new before after count whole)
    → AnswerFor old new before after whole served.shifts
