-- The job of serving, and the counts that its statuses are told by.
use Rattle.std.specs.Prelude.{ℕ, ◌≡◌, ◌≢◌, ◌≤◌, ◌⊎◌}
use Rattle.site_io.specs.Told.{Rose}
use Rattle.site_places.specs.Place.{KeepsCounts}
use Rattle.serve_store.specs.Job.{Front, ServesStore, ToServe}
use Rattle.serve_store.specs.declared.ending.ServeEnd.{ServeEnd}
use Rattle.serve_store.specs.declared.ending.ServeEnd.TheVariants as end
use Rattle.site_cli.specs.Outside.{Outside}

-- the status of the job's end
abbrev pub status_of_serve : ServeEnd → ℕ
status_of_serve end.Served = 0
status_of_serve end.Refused = 3
status_of_serve end.KeeperFailed = 4
status_of_serve end.OutputFailed = 6
status_of_serve end.PlaceFailed = 7
status_of_serve end.OutOfMemory = 9

-- what the job takes from and adds to
abbrev pub front_of : Outside → Front
front_of outside = record { written = outside.written; writing = outside.writing; place = outside.place }

-- The site of a store was served, or not, by how that ended; nothing of the input was taken.
pub record Serves (what : ToServe) (old new : Outside) (status : ℕ) : Type 0 where
  pub ended : ServeEnd
  pub does : ServesStore what ended (front_of old) (front_of new)
  pub source : new.left ≡ old.left
  pub status_is : status ≡ status_of_serve ended

-- A fault of the output is told exactly where its count rose, but that printing what is wrong with the rows may fail too; one of
-- the place exactly where its own count or that of its doors rose, and one of a keeper where the keeper failed to load. A keeper
-- that fails at an edit is counted too, and told in the edit's reply.
pub record HasServingCause (old new : Outside) (status : ℕ) : Type 0 where
  pub input_steady : new.reading ≡ old.reading
  pub output : status ≡ 6 → Rose old.writing new.writing
  pub output_steady : status ≢ 6 → status ≢ 2 → status ≢ 3 → new.writing ≡ old.writing
  pub place : status ≡ 7 → Rose old.place.faults new.place.faults ⊎ Rose old.place.door_faults new.place.door_faults
  pub place_steady : status ≢ 7 → KeepsCounts old.place new.place
  pub keeper : status ≡ 4 → Rose old.place.keeper_faults new.place.keeper_faults
  pub keeper_never_falls : old.place.keeper_faults ≤ new.place.keeper_faults
