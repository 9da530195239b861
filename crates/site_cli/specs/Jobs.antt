-- The jobs over a store: what they do with its keeper, the input, the output and the place.
use Rattle.std.specs.Prelude.{ℕ, List, ◌≡◌, ◌⊎◌, Option}
use Rattle.content_state.specs.State.{State}
use Rattle.site_keeper.specs.Keeper.{Kept}
use Rattle.site_jobs.specs.Jobs.{Around, Imports, TellsBy}
use Rattle.site_jobs.specs.declared.job.JobEnd.{JobEnd}
use Rattle.site_jobs.specs.declared.job.JobEnd.TheVariants as end
use Rattle.site_cli.specs.Outside.{Outside, Starves}
use Rattle.site_places.specs.Place.{PlaceView, keeper_given, HoldsMade, HoldsTold, KeeperFails, OpeningFails}

-- the status of a job's end
abbrev pub status_of_job : JobEnd → ℕ
status_of_job end.Done = 0
status_of_job end.Refused = 3
status_of_job end.KeeperFailed = 4
status_of_job end.InputFailed = 5
status_of_job end.OutputFailed = 6
status_of_job end.OutOfMemory = 9

-- what stands around a job whose keeper tells this
abbrev pub around_job : Option Kept → Outside → Around
around_job kept outside = record { kept = kept; written = outside.written; writing = outside.writing }

-- the keeper of a job that ended so, which told this, was given back
abbrev pub GivesBack : JobEnd → Option Kept → PlaceView → PlaceView → Type 0
GivesBack end.KeeperFailed kept old new = KeeperFails kept old new
GivesBack _ kept old new = new ≡ keeper_given kept old

-- The rows of the input were imported into the store of a path, which was made where nothing was there, or not, by how that
-- ended; its keeper was given back.
pub record ImportsInto (path : List ℕ) (old new : Outside) (status : ℕ) : Type 0 where
  pub ended : JobEnd
  pub kept : Option Kept
  pub kept-after : Option Kept
  pub told : HoldsMade (old.place.store path) kept
  pub does : Imports old.left ended (around_job kept old) (around_job kept-after new)
  pub back : GivesBack ended kept-after old.place new.place
  pub status_is : status ≡ status_of_job ended

-- A text of the site that the store of a path holds was printed, or not, by how that ended; its keeper was given back, and
-- held what it held. Nothing was taken.
pub record TellsOf (text : State → List ℕ) (path : List ℕ) (old new : Outside) (status : ℕ) : Type 0 where
  pub ended : JobEnd
  pub kept : Option Kept
  pub told : HoldsTold (old.place.store path) kept
  pub does : TellsBy text ended (around_job kept old) (around_job kept new)
  pub back : GivesBack ended kept old.place new.place
  pub source : new.left ≡ old.left
  pub status_is : status ≡ status_of_job ended

-- the store wasn't there or wasn't opened, as the place counted: nothing was taken or printed
pub record FailsStore (old new : Outside) (status : ℕ) : Type 0 where
  pub source : new.left ≡ old.left
  pub sink : new.written ≡ old.written
  pub place : OpeningFails old.place new.place
  pub status_is : status ≡ 7

-- it was done, or the store wasn't opened, or memory was wanting before
abbrev pub ImportsOrNot : List ℕ → Outside → Outside → ℕ → Type 0
ImportsOrNot path old new status = ImportsInto path old new status ⊎ (FailsStore old new status ⊎ Starves old new status)

abbrev pub TellsOrNot : (State → List ℕ) → List ℕ → Outside → Outside → ℕ → Type 0
TellsOrNot text path old new status = TellsOf text path old new status ⊎ (FailsStore old new status ⊎ Starves old new status)
