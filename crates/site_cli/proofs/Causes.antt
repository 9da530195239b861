-- The statuses of the program, and the counts of its devices.
use Rattle.std.proofs.Common.{◌≡◌, ◌≢◌, ℕ, arith}
use Rattle.site_io.specs.declared.ended.Ended.{Ended}
use Rattle.site_io.specs.declared.ended.Ended.TheVariants as ended
use Rattle.site_http.specs.Connection.{CountsReads, CountsWrites}
use Rattle.site_drill.specs.declared.job.DrillEnd.{DrillEnd}
use Rattle.site_drill.specs.declared.job.DrillEnd.TheVariants as drilled
use Rattle.site_drill.specs.Drill.{CountsOutput}
use Rattle.site_cli.specs.Drilling.{status_of_drill}
use Rattle.site_cli.specs.Run.{status_of}
use Rattle.site_places.specs.Place.{KeepsCounts}
use Rattle.site_cli.specs.Outside.{Outside, HasCause}

-- neither device failed
neither : (old new : Outside) (status : ℕ) → status ≢ 5 → status ≢ 6 → new.reading ≡ old.reading → new.writing ≡ old.writing → status ≢ 7 → status ≢ 4 → KeepsCounts old.place new.place → new.place.keeper_faults ≡ old.place.keeper_faults → HasCause old new status
neither old new status five six reads writes seven four kept keepers = record {
  input = λ is. absurd (five is);
  input_steady = λ _. reads;
  output = λ is. absurd (six is);
  output_steady = λ _ _ _. writes;
  place = λ is. absurd (seven is);
  place_steady = λ _. kept;
  keeper = λ is. absurd (four is);
  keeper_steady = λ _. keepers;
}

-- by the end of a connection
pub ended_cause : (end : Ended) (old new : Outside) (status : ℕ) → status ≡ status_of end → CountsReads end old.reading new.reading → CountsWrites end old.writing new.writing → KeepsCounts old.place new.place → new.place.keeper_faults ≡ old.place.keeper_faults → HasCause old new status
ended_cause ended.ReadFault old new status is reads writes kept keepers = record {
  input = λ _. reads;
  input_steady = λ other. absurd (other is);
  output = λ six. absurd (omega arith);
  output_steady = λ _ _ _. writes;
  place = λ seven. absurd (omega arith);
  place_steady = λ _. kept;
  keeper = λ four. absurd (omega arith);
  keeper_steady = λ _. keepers;
}
ended_cause ended.WriteFault old new status is reads writes kept keepers = record {
  input = λ five. absurd (omega arith);
  input_steady = λ _. reads;
  output = λ _. writes;
  output_steady = λ other _ _. absurd (other is);
  place = λ seven. absurd (omega arith);
  place_steady = λ _. kept;
  keeper = λ four. absurd (omega arith);
  keeper_steady = λ _. keepers;
}
ended_cause ended.Closed old new status is reads writes kept keepers = neither old new status (λ five. omega arith) (λ six. omega arith) reads writes (λ seven. omega arith) (λ four. omega arith) kept keepers
ended_cause ended.Asked old new status is reads writes kept keepers = neither old new status (λ five. omega arith) (λ six. omega arith) reads writes (λ seven. omega arith) (λ four. omega arith) kept keepers
ended_cause ended.Spent old new status is reads writes kept keepers = neither old new status (λ five. omega arith) (λ six. omega arith) reads writes (λ seven. omega arith) (λ four. omega arith) kept keepers
ended_cause (ended.Refused code) old new status is reads writes kept keepers = neither old new status (λ five. omega arith) (λ six. omega arith) reads writes (λ seven. omega arith) (λ four. omega arith) kept keepers
ended_cause (ended.Truncated n) old new status is reads writes kept keepers = neither old new status (λ five. omega arith) (λ six. omega arith) reads writes (λ seven. omega arith) (λ four. omega arith) kept keepers
ended_cause ended.OutOfMemory old new status is reads writes kept keepers = neither old new status (λ five. omega arith) (λ six. omega arith) reads writes (λ seven. omega arith) (λ four. omega arith) kept keepers

-- by the end of a drill
pub drill_cause : (end : DrillEnd) (old new : Outside) (status : ℕ) → status ≡ status_of_drill end → CountsOutput end old.writing new.writing → new.reading ≡ old.reading → KeepsCounts old.place new.place → new.place.keeper_faults ≡ old.place.keeper_faults → HasCause old new status
drill_cause drilled.OutputFailed old new status is writes reads kept keepers = record {
  input = λ five. absurd (omega arith);
  input_steady = λ _. reads;
  output = λ _. writes;
  output_steady = λ other _ _. absurd (other is);
  place = λ seven. absurd (omega arith);
  place_steady = λ _. kept;
  keeper = λ four. absurd (omega arith);
  keeper_steady = λ _. keepers;
}
drill_cause drilled.Printed old new status is writes reads kept keepers = neither old new status (λ five. omega arith) (λ six. omega arith) reads writes (λ seven. omega arith) (λ four. omega arith) kept keepers
drill_cause drilled.NoSite old new status is writes reads kept keepers = neither old new status (λ five. omega arith) (λ six. omega arith) reads writes (λ seven. omega arith) (λ four. omega arith) kept keepers
drill_cause drilled.Unanswered old new status is writes reads kept keepers = neither old new status (λ five. omega arith) (λ six. omega arith) reads writes (λ seven. omega arith) (λ four. omega arith) kept keepers
drill_cause drilled.OutOfMemory old new status is writes reads kept keepers = neither old new status (λ five. omega arith) (λ six. omega arith) reads writes (λ seven. omega arith) (λ four. omega arith) kept keepers
