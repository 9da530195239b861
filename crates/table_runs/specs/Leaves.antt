-- What each job leaves in a store that told what it held, by how it ended. `D held` says that the store holds that now.
use Rattle.std.specs.Prelude.{ℕ, List, [], ◌∷◌, ◌++◌, ◌≡◌, ◌≢◌, ◌⊎◌, Option, Some, None, Bool, true, false, length}
use Rattle.std.specs.Arc.{arc_value}
use Rattle.content_state.specs.Replay.{replay, step}
use Rattle.content_state.specs.State.{State}
use Rattle.content_state.specs.declared.commit.Commit.{Commit}
use Rattle.site_cli.specs.Jobs.{status_of_job}
use Rattle.site_cli.specs.Outside.{Outside}
use Rattle.site_cli.specs.Run.{Runs}
use Rattle.site_cli.specs.Serving.{status_of_serve}
use Rattle.site_cli.specs.Words.{Asked, replay as replays, serves, imports, exports, checks, lists, drills}
use Rattle.site_files.specs.Rows.{IsToldBy}
use Rattle.site_hall.specs.Hall.{HallView}
use Rattle.site_import.specs.Imports.{IsImport}
use Rattle.site_import.specs.declared.onto.Imported.{Imported}
use Rattle.site_io.specs.Told.{after, AddsFront}
use Rattle.site_jobs.specs.Ground.{IsGround, IsSite}
use Rattle.site_jobs.specs.Jobs.{checked, exported}
use Rattle.site_jobs.specs.Texts.{imported_text}
use Rattle.site_jobs.specs.declared.job.JobEnd.{JobEnd}
use Rattle.site_jobs.specs.declared.job.JobEnd.TheVariants as job_end
use Rattle.site_keeper.specs.Keeper.{Kept, held_of}
use Rattle.site_keeper.specs.Memory.{made_of}
use Rattle.site_keeper.specs.Steps.{stored_of}
use Rattle.site_keeper.specs.declared.stored.Stored.{Stored}
use Rattle.site_places.specs.Place.{there, PlaceView}
use Rattle.site_serve.specs.Stations.{StationView}
use Rattle.site_targets.specs.Targets.{targets_text}
use Rattle.serve_store.specs.Job.{IsOpened, ServedAt, ToServe}
use Rattle.serve_store.specs.Stations.{StationsGiven}
use Rattle.serve_store.specs.Warming.{place_then, IsReady}
use Rattle.serve_store.specs.declared.ending.ServeEnd.{ServeEnd}
use Rattle.serve_store.specs.declared.ending.ServeEnd.TheVariants as serve_end

-- the keeper that was given back last tells that it holds this
pub record Told (returned : Option Kept) (held : Stored) : Type 0 where
  pub kept : Kept
  pub is : returned ≡ Some kept
  pub holds : held_of kept ≡ held

-- ---- an import

-- The rows of a file were imported onto what the store held: how many rows it has, and how many cells changed. Where none did the
-- store holds what it held, and else the state that the edit of the file makes.
pub record IsImported (listed : Stored) (left : Option (List ℕ)) (rows changed : ℕ) (holds : Stored) : Type 0 where
  pub base : State
  pub imported : Imported
  pub held : stored_of base ≡ listed
  pub ground : IsGround base
  pub file : IsToldBy left (λ bytes. IsImport base bytes imported)
  pub rows_is : rows ≡ imported.rows
  pub changed_is : changed ≡ length (arc_value imported.commit).writes
  pub none : changed ≡ 0 → holds ≡ listed
  pub some : changed ≢ 0 → holds ≡ stored_of (step base (arc_value imported.commit))

pub record LeavesImport (D : Stored → Type 0) (listed : Stored) (left : Option (List ℕ)) (rows changed : ℕ) : Type 0 where
  pub holds : Stored
  pub is_imported : IsImported listed left rows changed holds
  pub leaves : D holds

-- the import may have been made, whole, or what was held is
abbrev pub MayLeave : (Stored → Type 0) → Stored → Option (List ℕ) → Type 0
MayLeave D listed left = D listed ⊎ ((rows : ℕ) × (changed : ℕ) × LeavesImport D listed left rows changed)

-- all that was read stands in the store, and how much that is was printed; or a front of that
pub record ImportsWhole (D : Stored → Type 0) (listed : Stored) (old new : Outside) : Type 0 where
  pub rows : ℕ
  pub changed : ℕ
  pub leaves : LeavesImport D listed old.left rows changed
  pub printed : new.written ≡ after old.written (imported_text rows changed)

pub record ImportsFront (D : Stored → Type 0) (listed : Stored) (old new : Outside) : Type 0 where
  pub rows : ℕ
  pub changed : ℕ
  pub leaves : LeavesImport D listed old.left rows changed
  pub printed : AddsFront old.written new.written (imported_text rows changed)

-- what is left by how an import ended
abbrev pub ImportLeaves : (Stored → Type 0) → Stored → JobEnd → Outside → Outside → Type 0
ImportLeaves D listed job_end.Done old new = ImportsWhole D listed old new
ImportLeaves D listed job_end.Refused old new = D listed
ImportLeaves D listed job_end.KeeperFailed old new = MayLeave D listed old.left
ImportLeaves D listed job_end.InputFailed old new = D listed
ImportLeaves D listed job_end.OutputFailed old new = ImportsFront D listed old new
ImportLeaves D listed job_end.OutOfMemory old new = MayLeave D listed old.left

pub record ImportEnds (D : Stored → Type 0) (listed : Stored) (old new : Outside) (status : ℕ) : Type 0 where
  pub ended : JobEnd
  pub status_is : status ≡ status_of_job ended
  pub leaves : ImportLeaves D listed ended old new

-- ---- a text of the site

-- a text of the site that the store held was printed
pub record PrintsSite (text : State → List ℕ) (listed : Stored) (old new : Outside) : Type 0 where
  pub base : State
  pub held : stored_of base ≡ listed
  pub site : IsSite base
  pub printed : new.written ≡ after old.written (text base)

-- where the job was done; and the store holds what it held, however it ended
pub record TextEnds (D : Stored → Type 0) (text : State → List ℕ) (listed : Stored) (old new : Outside) (status : ℕ) : Type 0 where
  pub ended : JobEnd
  pub status_is : status ≡ status_of_job ended
  pub prints : ended ≡ job_end.Done → PrintsSite text listed old new
  pub leaves : D listed

-- ---- serving

-- The store holds the site with the edits that were published: those of the log; or with the one besides that the keeper failed to
-- keep, where that is pending.
abbrev pub LeavesEdits : (Stored → Type 0) → HallView → Type 0
LeavesEdits D hall =
    D (stored_of (replay hall.base hall.log))
    ⊎ ((commit : Commit) × (hall.pending ≡ Some commit) × D (stored_of (replay hall.base (hall.log ++ commit ∷ []))))

-- The workers began with the site that the store held, and stopped because no connection was left to take, or some for their doors;
-- and the store holds that site with the edits that they published.
pub record ServesFrom (D : Stored → Type 0) (listed : Stored) (what : ToServe) (whole : Bool) (old new : Outside) : Type 0 where
  pub hall : HallView
  pub hall_is : IsOpened (Some (made_of listed)) 0 hall
  pub held : stored_of hall.base ≡ listed
  pub stations : List StationView
  pub given : PlaceView
  pub stations_are : StationsGiven what.address stations old.place given
  pub hall-then : HallView
  pub is_ready : IsReady what.warm given hall hall-then
  pub served : ServedAt what hall-then stations whole (place_then what.warm given) new.place
  pub base_is : served.hall-after.base ≡ hall.base
  pub leaves : LeavesEdits D served.hall-after

-- what is left by how serving ended: before the workers started the store holds what it held
abbrev pub ServeLeaves : (Stored → Type 0) → Stored → ToServe → ServeEnd → Outside → Outside → Type 0
ServeLeaves D listed what serve_end.Served old new = ServesFrom D listed what true old new
ServeLeaves D listed what serve_end.Refused old new = D listed
ServeLeaves D listed what serve_end.KeeperFailed old new = D listed
ServeLeaves D listed what serve_end.OutputFailed old new = D listed ⊎ ServesFrom D listed what true old new
ServeLeaves D listed what serve_end.PlaceFailed old new = D listed ⊎ ServesFrom D listed what false old new
ServeLeaves D listed what serve_end.OutOfMemory old new = D listed

pub record ServeEnds (D : Stored → Type 0) (listed : Stored) (what : ToServe) (old new : Outside) (status : ℕ) : Type 0 where
  pub ended : ServeEnd
  pub status_is : status ≡ status_of_serve ended
  pub leaves : ServeLeaves D listed what ended old new

-- ---- a store that isn't opened

-- no keeper was given back, for the place or for want of memory
pub record IsUnopened (old new : Outside) (status : ℕ) : Type 0 where
  pub returned : new.place.returned ≡ old.place.returned
  pub status_is : (status ≡ 7) ⊎ (status ≡ 9)

-- ---- all jobs

-- what a run leaves in the store of a path that held this, by the job that its words name
abbrev pub StoreTells : (Stored → Type 0) → Option Asked → List ℕ → Stored → Outside → Outside → ℕ → Type 0
StoreTells D None path listed old new status = Unit {0}
StoreTells D (Some (replays file)) path listed old new status = Unit {0}
StoreTells D (Some (serves what)) path listed old new status = what.store ≡ path → ServeEnds D listed what old new status ⊎ IsUnopened old new status
StoreTells D (Some (imports store)) path listed old new status = store ≡ path → ImportEnds D listed old new status ⊎ IsUnopened old new status
StoreTells D (Some (exports store)) path listed old new status = store ≡ path → TextEnds D exported listed old new status ⊎ IsUnopened old new status
StoreTells D (Some (checks store)) path listed old new status = store ≡ path → TextEnds D checked listed old new status ⊎ IsUnopened old new status
StoreTells D (Some (lists store)) path listed old new status = store ≡ path → TextEnds D targets_text listed old new status ⊎ IsUnopened old new status
StoreTells D (Some (drills number)) path listed old new status = Unit {0}

-- where the place told what the store of a path holds, the keeper that is given back tells what the run left
abbrev pub StoresTell : Type 0
StoresTell =
    (asked : Option Asked) (path : List ℕ) (listed : Stored) (old new : Outside) (status : ℕ)
    → old.place.store path ≡ there (made_of listed) → Runs asked old new status → StoreTells (Told new.place.returned) asked path listed old new status
