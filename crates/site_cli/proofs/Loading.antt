-- From loading the rows of a file to what a replay of it does.
use Rattle.std.proofs.Common.{◌≡◌, ◌∙◌, ◌⊎◌, ◌+◌, ◌-◌, inl, inr, refl, ℕ, List, Option, Some, None, sym, ap, subst, arith}
use Rattle.std.specs.Prelude.{◌<◌, ◌≤◌}
use Rattle.content_state.specs.State.{State}
use Rattle.site_io.specs.Told.{Rose}
use Rattle.site_files.specs.Rows.{IsSiteFault}
use Rattle.site_files.specs.declared.fault.ReadFault.{ReadFault}
use Rattle.site_files.specs.declared.fault.ReadFault.TheVariants as why
use Rattle.site_places.specs.Place.{Known, untold, absent, there, rows_given, rows_returned, PlaceView, HasTold, OpeningFails, RowsFail}
use Rattle.site_cli.specs.Load.{OfFile, ReadingFails}
use Rattle.serve_store.specs.Job.{ToServe}
use Rattle.site_cli.specs.Serving.{HasServingCause, Serves}
use Rattle.site_cli.specs.Run.{IsSiteOf, ReplaysOrStarves, ReplaysFileOrStarves, Runs, RunsJob, RunsWithCause}
use Rattle.site_cli.specs.Outside.{Outside, Starves}
use Rattle.site_cli.specs.Words.{Asked, replay, serves, imports, exports, checks, lists, drills}

-- the site of a device of rows is that of the file of which the place told beforehand
pub site_before : (file : Known (List ℕ)) (left : Option (List ℕ)) (base : State) → HasTold file left → IsSiteOf left base → OfFile file (λ bytes. IsSiteOf bytes base)
site_before untold left base has is = record { told = tt; counts = is.counts; number = is.number; valid = is.valid }
site_before absent left base has is = absurd has
site_before (there bytes) left base has is = subst (λ (o : Option (List ℕ)). IsSiteOf o base) has is

-- and so are the faults of its rows
pub fault_before : (file : Known (List ℕ)) (left : Option (List ℕ)) (fault : ReadFault) → HasTold file left → IsSiteFault left fault → OfFile file (λ bytes. IsSiteFault bytes fault)
fault_before untold left (why.Line n f) has is = tt
fault_before untold left (why.Cell f) has is = tt
fault_before untold left why.Source has is = tt
fault_before untold left why.OutOfMemory has is = tt
fault_before absent left fault has is = absurd has
fault_before (there bytes) left fault has is = subst (λ (o : Option (List ℕ)). IsSiteFault o fault) has is

-- a device without faults has some once its count rose
pub some_rose : (old new : ℕ) → old ≡ 0 → Rose old new → 0 < new
some_rose old new none rose = let from_zero : 1 ≤ new = subst (λ (n : ℕ). Rose n new) none rose in omega arith

-- a device of rows that was given is out
pub some_out : (old middle : PlaceView) → middle ≡ rows_given old → 0 < middle.rows_out
some_out old middle given =
    let out : middle.rows_out ≡ old.rows_out + 1 = ap (λ (v : PlaceView). v.rows_out) given in omega (arith, out)

-- once it is back, all is as it was
pub back_again : (old middle new : PlaceView) → middle ≡ rows_given old → new ≡ rows_returned middle → new ≡ old
back_again old middle new given back =
    let out : old.rows_out + 1 - 1 ≡ old.rows_out = omega arith in
    back ∙ ap rows_returned given ∙ ap (λ n. record old { rows_out = n }) out

-- or but for the count of such faults
pub reading_fails : (old middle new : PlaceView) → middle ≡ rows_given old → RowsFail middle new → ReadingFails old new
reading_fails old middle new given fails =
    let out : old.rows_out + 1 - 1 ≡ old.rows_out = omega arith in
    let faults : middle.rows_faults ≡ old.rows_faults = ap (λ (v : PlaceView). v.rows_faults) given in
    record {
      same = fails.same ∙ ap (λ (v : PlaceView). record (rows_returned v) { rows_faults = new.rows_faults }) given ∙ ap (λ n. record old { rows_out = n; rows_faults = new.rows_faults }) out;
      rose = subst (λ n. Rose n new.rows_faults) faults fails.rose;
      never_falls = subst (λ n. n ≤ new.rows_faults) faults fails.never_falls;
    }

-- either count of the place rose
pub one_rose : (old new : PlaceView) → OpeningFails old new ⊎ ReadingFails old new → Rose old.faults new.faults ⊎ Rose old.rows_faults new.rows_faults
one_rose old new (inl opening) = inl opening.rose
one_rose old new (inr rows) = inr rows.rose

-- a connection over the site of a file, once the place has its rows back
pub over_file : (path : List ℕ) (base : State) (left written : Option (List ℕ)) (reading writing : ℕ) (before mid : PlaceView) (new : Outside) (status : ℕ)
    → mid ≡ before → OfFile (before.file path) (λ bytes. IsSiteOf bytes base)
    → ReplaysOrStarves base (record { left = left; written = written; reading = reading; writing = writing; place = mid }) new status
    → ReplaysFileOrStarves path (record { left = left; written = written; reading = reading; writing = writing; place = before }) new status
over_file path base left written reading writing before mid new status same site does =
    go (subst (λ (v : PlaceView). ReplaysOrStarves base (record { left = left; written = written; reading = reading; writing = writing; place = v }) new status) same does)
  where
    old : Outside
    old = record { left = left; written = written; reading = reading; writing = writing; place = before }

    go : ReplaysOrStarves base old new status → ReplaysFileOrStarves path old new status
    go (inl replays) = inl (inl (record { base = base; site = site; replays = replays }))
    go (inr starves) = inr (inr starves)

starves : (here : Outside) → Starves here here 9
starves here = record { source = refl; sink = refl; place = refl; status_is = refl }

-- whatever the words ask for, memory may be wanting for it
pub starved : (job : Option Asked) (here : Outside) → RunsJob job here here 9
starved None here = inr (starves here)
starved (Some (replay None)) here = inr (starves here)
starved (Some (replay (Some path))) here = inr (inr (starves here))
starved (Some (serves what)) here = starves here
starved (Some (imports path)) here = inr (inr (starves here))
starved (Some (exports path)) here = inr (inr (starves here))
starved (Some (checks path)) here = inr (inr (starves here))
starved (Some (lists path)) here = inr (inr (starves here))
starved (Some (drills number)) here = inr (starves here)

-- what is done where nothing is served is what the program does
pub runs_job : (job : Option Asked) (old new : Outside) (status : ℕ) → RunsJob job old new status → Runs job old new status
runs_job None old new status does = does
runs_job (Some (replay None)) old new status does = does
runs_job (Some (replay (Some path))) old new status does = does
runs_job (Some (serves what)) old new status does = inr does
runs_job (Some (imports path)) old new status does = does
runs_job (Some (exports path)) old new status does = does
runs_job (Some (checks path)) old new status does = does
runs_job (Some (lists path)) old new status does = does
runs_job (Some (drills number)) old new status does = does

-- what was served where nothing was done before is what the program does
pub serving_runs : (job : Option Asked) (what : ToServe) (old middle new : Outside) (status : ℕ) → job ≡ Some (serves what) → middle ≡ old → Serves what middle new status → Runs job old new status
serving_runs job what old middle new status is same does =
    subst (λ (j : Option Asked). Runs j old new status) (sym is) (inl (subst (λ (o : Outside). Serves what o new status) same does))

-- and its causes are those of the program
pub serving_causes : (job : Option Asked) (what : ToServe) (old middle new : Outside) (status : ℕ) → job ≡ Some (serves what) → middle ≡ old → HasServingCause middle new status → RunsWithCause job old new status
serving_causes job what old middle new status is same cause =
    subst (λ (j : Option Asked). RunsWithCause j old new status) (sym is) (subst (λ (o : Outside). HasServingCause o new status) same cause)
