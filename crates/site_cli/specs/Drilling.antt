-- The drill, as a job.
use Rattle.std.specs.Prelude.{ℕ, ◌≡◌, ◌⊎◌}
use Rattle.site_drill.specs.Drill.{Drills}
use Rattle.site_drill.specs.declared.job.DrillEnd.{DrillEnd}
use Rattle.site_drill.specs.declared.job.DrillEnd.TheVariants as end
use Rattle.site_cli.specs.Outside.{Outside, Starves}

-- the status of a drill's end
abbrev pub status_of_drill : DrillEnd → ℕ
status_of_drill end.Printed = 0
status_of_drill end.NoSite = 3
status_of_drill end.OutputFailed = 6
status_of_drill end.Unanswered = 8
status_of_drill end.OutOfMemory = 9

-- The drill that is made from a number was done, or not, by how that ended; nothing of the input was taken, nor of the place.
pub record DrillsFrom (number : ℕ) (old new : Outside) (status : ℕ) : Type 0 where
  pub ended : DrillEnd
  pub does : Drills number ended old.written new.written
  pub source : new.left ≡ old.left
  pub place : new.place ≡ old.place
  pub status_is : status ≡ status_of_drill ended

-- or memory was wanting before
abbrev pub DrillsOrStarves : ℕ → Outside → Outside → ℕ → Type 0
DrillsOrStarves number old new status = DrillsFrom number old new status ⊎ Starves old new status
