-- What the program answers, job by job: each status with its cause, and what was printed with it, where nothing fails.
use Rattle.std.specs.Prelude.{ℕ, List, ◌≡◌, ◌⊎◌, Option, Some, None, true, length, All}
use Rattle.content_state.specs.State.{State}
use Rattle.content_state.specs.SiteRules.{IsValidState}
use Rattle.http_heads.specs.declared.request.Request.{Request}
use Rattle.http_heads.specs.Requests.{End, Reads}
use Rattle.site_io.specs.Told.{after, Rose}
use Rattle.site_files.specs.Rows.{IsSiteFault}
use Rattle.site_files.specs.declared.fault.ReadFault.{ReadFault}
use Rattle.site_keeper.specs.Keeper.{Kept}
use Rattle.site_hall.specs.Hall.{HallView}
use Rattle.site_jobs.specs.Ground.{Holds, IsNoGround, IsNoSiteOf, IsSite}
use Rattle.site_jobs.specs.Jobs.{KeepsImport, IsRefusedBy, IsRefusedFile, checked, exported}
use Rattle.site_jobs.specs.Texts.{fault_text, imported_text}
use Rattle.site_places.specs.Place.{Known, there, PlaceView, HoldsMade, HoldsTold}
use Rattle.site_serve.specs.Stations.{StationView}
use Rattle.site_alone.specs.Sites.{starter_site}
use Rattle.serve_store.specs.Job.{IsOpened, ServedAt, ToServe}
use Rattle.serve_store.specs.Stations.{StationsGiven}
use Rattle.serve_store.specs.Texts.{listening_text, served_text}
use Rattle.serve_store.specs.Warming.{place_then, written_then, IsReady}
use Rattle.site_targets.specs.Targets.{targets_text}
use Rattle.site_drill.specs.Drill.{IsDrilled, drill_requests, drill_site}
use Rattle.site_drill.specs.Lines.{drill_text}
use Rattle.site_drill.specs.Stops.{AreNoRequests}
use Rattle.site_drill.specs.declared.figures.Figures.{Figures}
use Rattle.site_cli.specs.Load.{OfFile}
use Rattle.site_cli.specs.Outside.{Outside}
use Rattle.site_cli.specs.Run.{IsSiteOf, Replays, Runs, RunsWithCause}
use Rattle.site_cli.specs.Words.{usage, Asked, replay, serves, imports, exports, checks, lists, drills}
use Rattle.run_laws.specs.Complete.{StaysCounted}
use Rattle.run_laws.specs.Served.{AnswerFor}
use Rattle.job_laws.specs.Complete.{RepliesToAll}

-- ---- counts of faults

-- no count of faults rose
pub record NothingFails (old new : Outside) : Type 0 where
  pub input : StaysCounted old.reading new.reading
  pub output : StaysCounted old.writing new.writing
  pub openings : StaysCounted old.place.faults new.place.faults
  pub rows : StaysCounted old.place.rows_faults new.place.rows_faults
  pub keepers : StaysCounted old.place.keeper_faults new.place.keeper_faults
  pub doors : StaysCounted old.place.door_faults new.place.door_faults

-- some count of the place rose that is its own, of its devices of rows, or of its doors
abbrev pub PlaceFails : PlaceView → PlaceView → Type 0
PlaceFails old new = Rose old.faults new.faults ⊎ (Rose old.rows_faults new.rows_faults ⊎ Rose old.door_faults new.door_faults)

-- A status that tells a fault comes only where a count of faults rose: 4 that of a keeper, 5 that of the input, 6 that of the output,
-- 7 one of the place.
pub record TellsFaults (old new : Outside) (status : ℕ) : Type 0 where
  pub keeper : status ≡ 4 → Rose old.place.keeper_faults new.place.keeper_faults
  pub input : status ≡ 5 → Rose old.reading new.reading
  pub output : status ≡ 6 → Rose old.writing new.writing
  pub place : status ≡ 7 → PlaceFails old.place new.place

-- ---- what was said

-- this text was printed, all of it, with this status
pub record Says (text : List ℕ) (said : ℕ) (old new : Outside) (status : ℕ) : Type 0 where
  pub printed : new.written ≡ after old.written text
  pub status_is : status ≡ said

-- memory was wanting
abbrev pub Wants : ℕ → Type 0
Wants status = status ≡ 9

-- ---- one connection

-- The input was answered over a site: each of its requests, where they are told, and with the status of what follows them.
pub record AnswersInput (base : State) (old new : Outside) (status : ℕ) : Type 0 where
  pub replays : Replays base old new status
  pub status_is : (status ≡ 0) ⊎ (status ≡ 8)
  pub all : (bytes : List ℕ) (requests : List Request) (end : End) → old.left ≡ Some bytes → Reads 1000 bytes requests end
      → RepliesToAll base old new status replays requests end

abbrev pub AnswersOrWants : State → Outside → Outside → ℕ → Type 0
AnswersOrWants base old new status = AnswersInput base old new status ⊎ Wants status

-- the input was answered over the site of a file
pub record AnswersFile (file : Known (List ℕ)) (old new : Outside) (status : ℕ) : Type 0 where
  pub base : State
  pub site : OfFile file (λ bytes. IsSiteOf bytes base)
  pub answers : AnswersInput base old new status

-- the rows of the file are no site, and the first fault was printed
pub record FaultsFile (file : Known (List ℕ)) (old new : Outside) (status : ℕ) : Type 0 where
  pub fault : ReadFault
  pub text : List ℕ
  pub is_fault : OfFile file (λ bytes. IsSiteFault bytes fault)
  pub fault_says : fault_text fault ≡ Some text
  pub says : Says text 3 old new status
  pub no_site : (told : List ℕ) (base : State) → file ≡ there told → IsSiteOf (Some told) base → ⊥

-- of a file that the place told is not there, memory is wanting
abbrev pub AnswersOrFaults : Known (List ℕ) → Outside → Outside → ℕ → Type 0
AnswersOrFaults file old new status = AnswersFile file old new status ⊎ (FaultsFile file old new status ⊎ Wants status)

-- ---- over a store

-- what the store of a path holds is no site, and the first fault was printed
pub record FaultsStore (path : List ℕ) (old new : Outside) (status : ℕ) : Type 0 where
  pub kept : Option Kept
  pub told : HoldsTold (old.place.store path) kept
  pub text : List ℕ
  pub refused : IsRefusedBy IsNoSiteOf kept text
  pub says : Says text 3 old new status
  pub no_site : (holds : Kept) (base : State) → kept ≡ Some holds → Holds kept base → IsSite base → ⊥

-- a text of the site that it holds was printed
pub record TellsAll (text : State → List ℕ) (path : List ℕ) (old new : Outside) (status : ℕ) : Type 0 where
  pub kept : Option Kept
  pub told : HoldsTold (old.place.store path) kept
  pub base : State
  pub holds : Holds kept base
  pub site : IsSite base
  pub says : Says (text base) 0 old new status

abbrev pub TellsOrFaults : (State → List ℕ) → List ℕ → Outside → Outside → ℕ → Type 0
TellsOrFaults text path old new status = TellsAll text path old new status ⊎ (FaultsStore path old new status ⊎ Wants status)

-- the rows of the input were imported, and how many was printed
pub record ImportsAll (path : List ℕ) (old new : Outside) (status : ℕ) : Type 0 where
  pub kept : Option Kept
  pub kept-after : Option Kept
  pub told : HoldsMade (old.place.store path) kept
  pub rows : ℕ
  pub changed : ℕ
  pub keeps : KeepsImport old.left rows changed kept kept-after
  pub says : Says (imported_text rows changed) 0 old new status

-- they were refused, or what is stored was; nothing was kept, and the first fault was printed
pub record FaultsImport (path : List ℕ) (old new : Outside) (status : ℕ) : Type 0 where
  pub kept : Option Kept
  pub told : HoldsMade (old.place.store path) kept
  pub text : List ℕ
  pub refused : IsRefusedBy IsNoGround kept text ⊎ IsRefusedFile old.left kept text
  pub says : Says text 3 old new status

abbrev pub ImportsOrFaults : List ℕ → Outside → Outside → ℕ → Type 0
ImportsOrFaults path old new status = ImportsAll path old new status ⊎ (FaultsImport path old new status ⊎ Wants status)

-- ---- serving

-- The site of a store was served: pages were rendered first where that was asked for (`IsReady`), and then as many connections as were
-- to be, each with what workers answer (`AnswerFor`). No edit was answered that the keeper failed.
pub record ServesAll (what : ToServe) (old new : Outside) (status : ℕ) : Type 0 where
  pub kept : Option Kept
  pub told : HoldsTold (old.place.store what.store) kept
  pub hall : HallView
  pub hall_is : IsOpened kept 0 hall
  pub stations : List StationView
  pub given : PlaceView
  pub stations_are : StationsGiven what.address stations old.place given
  pub workers : length stations ≡ what.workers
  pub hall-then : HallView
  pub is_ready : IsReady what.warm given hall hall-then
  pub served : ServedAt what hall-then stations true (place_then what.warm given) new.place
  pub answers : AnswerFor hall-then served.hall-after stations served.stations-after true served.served.shifts
  pub no_keeper : All (λ shift. shift.keepers ≡ 0) served.served.shifts
  pub printed : new.written ≡ after (written_then what.warm hall (after old.written (listening_text what.address))) (served_text what.limit)
  pub status_is : status ≡ 0

abbrev pub ServesOrFaults : ToServe → Outside → Outside → ℕ → Type 0
ServesOrFaults what old new status = ServesAll what old new status ⊎ (FaultsStore what.store old new status ⊎ Wants status)

-- ---- the drill

-- all its requests were answered, and what came of it was printed
pub record DrillsAll (number : ℕ) (old new : Outside) (status : ℕ) : Type 0 where
  pub figures : Figures
  pub drilled : IsDrilled number figures
  pub says : Says (drill_text number figures) 0 old new status

-- the rows that are made are no site
pub record DrillsNoSite (number : ℕ) (status : ℕ) : Type 0 where
  pub no_site : IsValidState (drill_site number) → ⊥
  pub status_is : status ≡ 3

-- the bytes that are made are no such requests
pub record DrillsNoRequests (number : ℕ) (status : ℕ) : Type 0 where
  pub no_requests : AreNoRequests (drill_requests number)
  pub status_is : status ≡ 8

abbrev pub DrillsOrFaults : ℕ → Outside → Outside → ℕ → Type 0
DrillsOrFaults number old new status =
    (DrillsAll number old new status ⊎ DrillsNoSite number status) ⊎ (DrillsNoRequests number status ⊎ Wants status)

-- ---- all jobs

-- what the program answers where nothing fails, by the job that its words name, if they name one
abbrev pub Completes : Option Asked → Outside → Outside → ℕ → Type 0
Completes None old new status = Says usage 2 old new status ⊎ Wants status
Completes (Some (replay None)) old new status = AnswersOrWants starter_site old new status
Completes (Some (replay (Some path))) old new status = AnswersOrFaults (old.place.file path) old new status
Completes (Some (serves what)) old new status = ServesOrFaults what old new status
Completes (Some (imports path)) old new status = ImportsOrFaults path old new status
Completes (Some (exports path)) old new status = TellsOrFaults exported path old new status
Completes (Some (checks path)) old new status = TellsOrFaults checked path old new status
Completes (Some (lists path)) old new status = TellsOrFaults targets_text path old new status
Completes (Some (drills number)) old new status = DrillsOrFaults number old new status

-- What the program answers has its cause: 2 comes only where the words name no job; with 4 nothing was printed; where a fault is
-- told a count rose, and where none did the answer is one of these.
pub record AnswersWithCause (asked : Option Asked) (old new : Outside) (status : ℕ) : Type 0 where
  pub words : status ≡ 2 → asked ≡ None
  pub silent : status ≡ 4 → new.written ≡ old.written
  pub faults : TellsFaults old new status
  pub completes : NothingFails old new → Completes asked old new status

abbrev pub RunsComplete : Type 0
RunsComplete =
    (asked : Option Asked) (old new : Outside) (status : ℕ)
    → Runs asked old new status → RunsWithCause asked old new status → AnswersWithCause asked old new status
