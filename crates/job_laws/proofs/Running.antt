-- What the program answers, job by job.
use Rattle.std.proofs.Common.{◌≡◌, ◌∙◌, ◌⊎◌, ◌==◌, ◌≤◌, ◌^◌, ℕ, zero, suc, List, [], ◌∷◌, Bool, true, false, Option, Some, None, Result, Ok, Err, refl, sym, ap, subst, arith, inl, inr}
use Rattle.std.proofs.lemmas.Bool.{eqb-true, eqb-false}
use Rattle.content_rows.specs.declared.cell.Cell.{Cell}
use Rattle.content_rows.specs.declared.row.Row.{Row}
use Rattle.content_state.specs.State.{State}
use Rattle.content_state.specs.SiteRules.{IsNoSite, MeetsSiteRules, cell_fault}
use Rattle.content_state.specs.declared.site_rules.NotASite.{NotASite}
use Rattle.site_io.specs.declared.ended.Ended.{Ended}
use Rattle.site_io.specs.declared.ended.Ended.TheVariants as ended
use Rattle.site_io.specs.Told.{after}
use Rattle.site_alone.specs.Sites.{starter_site}
use Rattle.site_files.specs.Rows.{IsSiteFault}
use Rattle.site_files.specs.declared.fault.ReadFault.{ReadFault}
use Rattle.site_files.specs.declared.fault.ReadFault.TheVariants as why
use Rattle.site_keeper.specs.Keeper.{Kept, held_of}
use Rattle.site_keeper.specs.Steps.{stored_of}
use Rattle.site_keeper.specs.declared.stored.Stored.{Stored}
use Rattle.site_jobs.specs.Ground.{Holds, IsNoSiteOf, IsSite}
use Rattle.site_jobs.specs.Jobs.{Imports, IsNoBase, IsRefusedBy, Prints, TellsBy, checked, exported}
use Rattle.site_jobs.specs.Texts.{fault_text}
use Rattle.site_jobs.specs.declared.fault.NoJob.{NoJob}
use Rattle.site_jobs.specs.declared.fault.NoJob.TheVariants as none
use Rattle.site_jobs.specs.declared.job.JobEnd.{JobEnd}
use Rattle.site_jobs.specs.declared.job.JobEnd.TheVariants as job_end
use Rattle.site_places.specs.Place.{Known, PlaceView, DoorBack, HoldsMade, HoldsTold, KeeperBack}
use Rattle.site_places.specs.Place as places
use Rattle.site_places.specs.declared.place.NoDevice.{NoDevice}
use Rattle.site_places.specs.declared.place.NoDevice.TheVariants as device
use Rattle.site_hall.specs.Hall.{HallView}
use Rattle.site_serve.specs.Stations.{StationView}
use Rattle.serve_store.specs.Job.{Front, OpensSite, OpensStations, OpensStore, ServedAt, ServesOpen, ServesReady, ServesStore, TellsWhy, ToServe, end_of}
use Rattle.serve_store.specs.Warming.{place_then, IsReady}
use Rattle.serve_store.specs.Stations.{AllBack, DoorsBack, StationsGiven, station_given}
use Rattle.serve_store.specs.declared.ending.ServeEnd.{ServeEnd}
use Rattle.serve_store.specs.declared.ending.ServeEnd.TheVariants as serve_end
use Rattle.site_drill.specs.Drill.{Drills}
use Rattle.site_drill.specs.declared.job.DrillEnd.{DrillEnd}
use Rattle.site_drill.specs.declared.job.DrillEnd.TheVariants as drill_end
use Rattle.site_cli.specs.Drilling.{DrillsOrStarves, status_of_drill}
use Rattle.site_cli.specs.Jobs.{ImportsOrNot, TellsOrNot, around_job, status_of_job}
use Rattle.site_cli.specs.Load.{OfFile}
use Rattle.site_cli.specs.Outside.{Outside, HasCause, Starves}
use Rattle.site_cli.specs.Run.{IsSiteOf, Replays, ReplaysFileOrStarves, ReplaysOrStarves, Runs, RunsWithCause, status_of}
use Rattle.site_cli.specs.Serving.{HasServingCause, Serves, front_of, status_of_serve}
use Rattle.site_cli.specs.Words.{usage, Asked, replay, serves, imports, exports, checks, lists, drills}
use Rattle.site_targets.specs.Targets.{targets_text}
use Rattle.run_laws.specs.Complete.{StaysCounted}
use Rattle.run_laws.proofs.Completing.{steady}
use Rattle.run_laws.proofs.Servers.{servers}
use Rattle.job_laws.specs.Answers.{AnswersOrFaults, AnswersOrWants, Completes, DrillsOrFaults, FaultsStore, ImportsOrFaults, NothingFails, RunsComplete, ServesAll, ServesOrFaults, TellsFaults, TellsOrFaults}
use Rattle.job_laws.proofs.Replaying.{replays}

-- ---- faults

-- no status tells a fault
record NoneTold (status : ℕ) : Type 0 where
  keeper : status ≡ 4 → ⊥
  input : status ≡ 5 → ⊥
  output : status ≡ 6 → ⊥
  place : status ≡ 7 → ⊥

none_told : (old new : Outside) (status : ℕ) → TellsFaults old new status → NothingFails old new → NoneTold status
none_told old new status faults nothing = record {
  keeper = λ is. steady old.place.keeper_faults new.place.keeper_faults nothing.keepers (faults.keeper is);
  input = λ is. steady old.reading new.reading nothing.input (faults.input is);
  output = λ is. steady old.writing new.writing nothing.output (faults.output is);
  place = λ is. elim (faults.place is) [
    | inl own ↦ steady old.place.faults new.place.faults nothing.openings own
    | inr (inl rows) ↦ steady old.place.rows_faults new.place.rows_faults nothing.rows rows
    | inr (inr doors) ↦ steady old.place.door_faults new.place.door_faults nothing.doors doors
  ];
}

of_job : (old new : Outside) (status : ℕ) → HasCause old new status → TellsFaults old new status
of_job old new status cause = record {
  keeper = cause.keeper;
  input = cause.input;
  output = cause.output;
  place = λ is. elim (cause.place is) [ inl own ↦ inl own | inr rows ↦ inr (inl rows) ];
}

serving_reads : (old new : Outside) (status : ℕ) (what : ToServe) → Serves what old new status ⊎ Starves old new status → status ≡ 5 → ⊥
serving_reads old new status what (inr starves) five = let nine = starves.status_is in absurd (omega arith)
serving_reads old new status what (inl does) five = no_five does.ended (sym does.status_is ∙ five)
  where
    no_five : (e : ServeEnd) → status_of_serve e ≡ 5 → ⊥
    no_five serve_end.Served is = omega (arith, is)
    no_five serve_end.Refused is = omega (arith, is)
    no_five serve_end.KeeperFailed is = omega (arith, is)
    no_five serve_end.OutputFailed is = omega (arith, is)
    no_five serve_end.PlaceFailed is = omega (arith, is)
    no_five serve_end.OutOfMemory is = omega (arith, is)

of_serving : (old new : Outside) (status : ℕ) (what : ToServe) → Serves what old new status ⊎ Starves old new status → HasServingCause old new status → TellsFaults old new status
of_serving old new status what runs cause = record {
  keeper = cause.keeper;
  input = λ is. absurd (serving_reads old new status what runs is);
  output = cause.output;
  place = λ is. elim (cause.place is) [ inl own ↦ inl own | inr doors ↦ inr (inr doors) ];
}

-- what is printed is printed whole where the output didn't fail
printed : (text : List ℕ) (written written' : Option (List ℕ)) (writing writing' : ℕ) → StaysCounted writing writing' → Prints text written written' writing writing' → written' ≡ after written text
printed text written written' writing writing' stays (inl whole) = whole
printed text written written' writing writing' stays (inr front) = absurd (steady writing writing' stays front.1)

-- ---- one connection

inner : {A : Type 0} {x y : A} → Some x ≡ Some y → x ≡ y
inner same = cc

answered_status : (e : Ended) → (status_of e ≡ 5 → ⊥) → (status_of e ≡ 6 → ⊥) → (status_of e ≡ 9 → ⊥) → (status_of e ≡ 0) ⊎ (status_of e ≡ 8)
answered_status ended.Closed five six nine = inl refl
answered_status ended.Asked five six nine = inl refl
answered_status ended.Spent five six nine = inl refl
answered_status (ended.Refused code) five six nine = inr refl
answered_status (ended.Truncated n) five six nine = inr refl
answered_status ended.ReadFault five six nine = absurd (five refl)
answered_status ended.WriteFault five six nine = absurd (six refl)
answered_status ended.OutOfMemory five six nine = absurd (nine refl)

is_nine : (status : ℕ) → (status ≡ 9) ⊎ (status ≡ 9 → ⊥)
is_nine status = elim (status == 9) as (λ (b : Bool). (status == 9) ≡ b → (status ≡ 9) ⊎ (status ≡ 9 → ⊥)) [
  | true ↦ λ is. inl (eqb-true status 9 is)
  | false ↦ λ is. inr (eqb-false status 9 is)
] refl

by_nine : (base : State) (old new : Outside) (status : ℕ) (r : Replays base old new status) → HasCause old new status → NothingFails old new → NoneTold status → (status ≡ 9) ⊎ (status ≡ 9 → ⊥) → AnswersOrWants base old new status
by_nine base old new status r cause nothing told (inl nine) = inr nine
by_nine base old new status r cause nothing told (inr other) = inl (record {
  replays = r;
  status_is = elim (answered_status r.end (λ five. told.input (r.status_is ∙ five)) (λ six. told.output (r.status_is ∙ six)) (λ nine. other (r.status_is ∙ nine))) [
    | inl whole ↦ inl (r.status_is ∙ whole)
    | inr cut ↦ inr (r.status_is ∙ cut)
  ];
  all = λ bytes requests end left reads. elim (replays base old new status r cause nothing.input nothing.output bytes requests end left reads) [
    | inl all ↦ all
    | inr nine ↦ absurd (other nine)
  ];
})

answers : (base : State) (old new : Outside) (status : ℕ) → ReplaysOrStarves base old new status → HasCause old new status → NothingFails old new → NoneTold status → AnswersOrWants base old new status
answers base old new status (inr starves) cause nothing told = inr starves.status_is
answers base old new status (inl r) cause nothing told = by_nine base old new status r cause nothing told (is_nine status)

-- ---- rows that are no site

-- rows that are a site are not said to be none
not_both : (rows : List (Cell × Row)) (number : ℕ) (fault : NotASite) → MeetsSiteRules rows → number ≤ 2 ^ 62 → IsNoSite rows number fault → ⊥
not_both rows number fault meets small (inl first) = none_is_some (cell_fault rows fault.cell) (meets fault.cell) first.broken
  where
    none_is_some : {A : Type 0} {x : A} (o : Option A) → o ≡ None → o ≡ Some x → ⊥
    none_is_some o is_none is_some = cc
not_both rows number fault meets small (inr great) = let above = great.great in omega arith

file_fault : (told : List ℕ) (base : State) (fault : ReadFault) (text : List ℕ) → IsSiteOf (Some told) base → IsSiteFault (Some told) fault → fault_text fault ≡ Some text → ⊥
file_fault told base (why.Line n f) text site is says = ok_is_err is site.told
  where
    ok_is_err : {A E : Type 0} {x : A} {e : E} {r : Result A E} → r ≡ Err e → r ≡ Ok x → ⊥
    ok_is_err err ok = cc
file_fault told base (why.Cell f) text site is says =
    let same : is.0 ≡ base.rows = ok_once is.1 site.told in
    not_both base.rows 0 f site.valid.together (omega arith) (subst (λ (rows : List (Cell × Row)). IsNoSite rows 0 f) same is.2)
  where
    ok_once : {A E : Type 0} {x y : A} {r : Result A E} → r ≡ Ok x → r ≡ Ok y → x ≡ y
    ok_once one other = cc
file_fault told base why.Source text site is says = absurd cc
file_fault told base why.OutOfMemory text site is says = absurd cc

no_file_site : (file : Known (List ℕ)) (fault : ReadFault) (text told : List ℕ) (base : State) → OfFile file (λ bytes. IsSiteFault bytes fault) → fault_text fault ≡ Some text → file ≡ places.there told → IsSiteOf (Some told) base → ⊥
no_file_site file fault text told base is says here site =
    file_fault told base fault text site (subst (λ (f : Known (List ℕ)). OfFile f (λ bytes. IsSiteFault bytes fault)) here is) says

-- one keeper holds one state
one_state : (holds : Kept) (base other : State) → Holds (Some holds) base → Holds (Some holds) other → base ≡ other
one_state holds base other one two =
    let same : stored_of base ≡ stored_of other = one ∙ sym two in
    λ i. record { rows = ap (λ (s : Stored). s.rows) same i; counts = ap (λ (s : Stored). s.counts) same i; number = ap (λ (s : Stored). s.head) same i }

no_stored_site : (kept : Option Kept) (text : List ℕ) (holds : Kept) (base : State) → IsRefusedBy IsNoSiteOf kept text → kept ≡ Some holds → Holds kept base → IsSite base → ⊥
no_stored_site kept text holds base refused there held site =
    let same : refused.base ≡ base = one_state holds refused.base base (subst (λ (k : Option Kept). Holds k refused.base) there refused.holds) (subst (λ (k : Option Kept). Holds k base) there held) in
    not_both base.rows base.number refused.fault site.valid.together site.number (subst (λ (s : State). IsNoSiteOf s refused.fault) same refused.is_fault)

-- ---- a file

answers_file : (path : List ℕ) (old new : Outside) (status : ℕ) → ReplaysFileOrStarves path old new status → HasCause old new status → NothingFails old new → NoneTold status → AnswersOrFaults (old.place.file path) old new status
answers_file path old new status (inl (inl file)) cause nothing told =
    elim (by_nine file.base old new status file.replays cause nothing told (is_nine status)) [
      | inl all ↦ inl (record { base = file.base; site = file.site; answers = all })
      | inr nine ↦ inr (inr nine)
    ]
answers_file path old new status (inl (inr refused)) cause nothing told = inr (inl (record {
  fault = refused.fault;
  text = refused.text;
  is_fault = refused.is_fault;
  fault_says = refused.says;
  says = record { printed = printed refused.text old.written new.written old.writing new.writing nothing.output refused.sink; status_is = refused.status_is };
  no_site = λ bytes base there site. no_file_site (old.place.file path) refused.fault refused.text bytes base refused.is_fault refused.says there site;
}))
answers_file path old new status (inr (inl fails)) cause nothing told = absurd (told.place fails.status_is)
answers_file path old new status (inr (inr starves)) cause nothing told = inr (inr starves.status_is)

-- ---- over a store

told_by : (said : State → List ℕ) (path : List ℕ) (old new : Outside) (status : ℕ) (kept : Option Kept) (e : JobEnd) → HoldsTold (old.place.store path) kept → TellsBy said e (around_job kept old) (around_job kept new) → status ≡ status_of_job e → NothingFails old new → NoneTold status → TellsOrFaults said path old new status
told_by said path old new status kept job_end.Done there does is nothing told = inl (record {
  kept = kept;
  told = there;
  base = does.base;
  holds = does.holds;
  site = does.site;
  says = record { printed = does.whole; status_is = is };
})
told_by said path old new status kept job_end.Refused there does is nothing told = inr (inl (record {
  kept = kept;
  told = there;
  text = does.text;
  refused = does.refused;
  says = record { printed = printed does.text old.written new.written old.writing new.writing nothing.output does.printed; status_is = is };
  no_site = λ holds base at held site. no_stored_site kept does.text holds base does.refused at held site;
}))
told_by said path old new status kept job_end.KeeperFailed there does is nothing told = absurd (told.keeper is)
told_by said path old new status kept job_end.InputFailed there does is nothing told = absurd does
told_by said path old new status kept job_end.OutputFailed there does is nothing told = absurd (told.output is)
told_by said path old new status kept job_end.OutOfMemory there does is nothing told = inr (inr is)

tells : (said : State → List ℕ) (path : List ℕ) (old new : Outside) (status : ℕ) → TellsOrNot said path old new status → NothingFails old new → NoneTold status → TellsOrFaults said path old new status
tells said path old new status (inl does) nothing told = told_by said path old new status does.kept does.ended does.told does.does does.status_is nothing told
tells said path old new status (inr (inl fails)) nothing told = absurd (told.place fails.status_is)
tells said path old new status (inr (inr starves)) nothing told = inr (inr starves.status_is)

imported_by : (path : List ℕ) (old new : Outside) (status : ℕ) (kept kept' : Option Kept) (e : JobEnd) → HoldsMade (old.place.store path) kept → Imports old.left e (around_job kept old) (around_job kept' new) → status ≡ status_of_job e → NothingFails old new → NoneTold status → ImportsOrFaults path old new status
imported_by path old new status kept kept' job_end.Done there does is nothing told = inl (record {
  kept = kept;
  kept-after = kept';
  told = there;
  rows = does.rows;
  changed = does.changed;
  keeps = does.keeps;
  says = record { printed = does.whole; status_is = is };
})
imported_by path old new status kept kept' job_end.Refused there does is nothing told = inr (inl (record {
  kept = kept;
  told = there;
  text = does.text;
  refused = does.refused;
  says = record { printed = printed does.text old.written new.written old.writing new.writing nothing.output does.printed; status_is = is };
}))
imported_by path old new status kept kept' job_end.KeeperFailed there does is nothing told = absurd (told.keeper is)
imported_by path old new status kept kept' job_end.InputFailed there does is nothing told = absurd (told.input is)
imported_by path old new status kept kept' job_end.OutputFailed there does is nothing told = absurd (told.output is)
imported_by path old new status kept kept' job_end.OutOfMemory there does is nothing told = inr (inr is)

imported : (path : List ℕ) (old new : Outside) (status : ℕ) → ImportsOrNot path old new status → NothingFails old new → NoneTold status → ImportsOrFaults path old new status
imported path old new status (inl does) nothing told = imported_by path old new status does.kept does.kept-after does.ended does.told does.does does.status_is nothing told
imported path old new status (inr (inl fails)) nothing told = absurd (told.place fails.status_is)
imported path old new status (inr (inr starves)) nothing told = inr (inr starves.status_is)

-- ---- the count of keepers that had failed

given_keeps : (address : List ℕ) (stations : List StationView) (old new : PlaceView) → StationsGiven address stations old new → new.keeper_faults ≡ old.keeper_faults
given_keeps address [] old new given = ap (λ (p : PlaceView). p.keeper_faults) given
given_keeps address (station ∷ stations) old new given = given_keeps address stations (station_given address old) new given.1

door_keeps : (station : StationView) (faults : ℕ) (old new : PlaceView) → DoorBack station.returned faults old new → new.keeper_faults ≡ old.keeper_faults
door_keeps station zero old new back = ap (λ (p : PlaceView). p.keeper_faults) (back.0 refl)
door_keeps station (suc faults) old new back = ap (λ (p : PlaceView). p.keeper_faults) (back.1 (omega arith)).same

doors_keep : (stations : List StationView) (old new : PlaceView) → DoorsBack stations old new → new.keeper_faults ≡ old.keeper_faults
doors_keep [] old new back = ap (λ (p : PlaceView). p.keeper_faults) back
doors_keep (station ∷ stations) old new back =
    doors_keep stations back.middle new back.then ∙ door_keeps station station.faults old back.middle back.back

-- where it didn't rise, the keeper that was given back never failed
keeper_steady : (kept : Option Kept) (faults : ℕ) (old new : PlaceView) → KeeperBack kept faults old new → StaysCounted old.keeper_faults new.keeper_faults → faults ≡ 0
keeper_steady kept zero old new back stays = refl
keeper_steady kept (suc faults) old new back stays =
    absurd (steady old.keeper_faults new.keeper_faults stays (back.1 (omega arith)).rose)

none_failed : (stations : List StationView) (kept : Option Kept) (faults : ℕ) (old new : PlaceView) → AllBack stations kept faults old new → StaysCounted old.keeper_faults new.keeper_faults → faults ≡ 0
none_failed stations kept faults old new back stays =
    let same = doors_keep stations old back.middle back.doors in
    keeper_steady kept faults back.middle new back.keeper (subst (λ (n : ℕ). StaysCounted n new.keeper_faults) (sym same) stays)

stays_none : (old new : ℕ) → old ≡ 0 → new ≡ 0 → StaysCounted old new
stays_none old new one other = record { same = other ∙ sym one; short = omega arith }

-- ---- serving

device_not : (e : ServeEnd) (why : NoDevice) → (e ≡ serve_end.PlaceFailed → ⊥) → (e ≡ serve_end.OutOfMemory → ⊥) → e ≡ end_of why → ⊥
device_not e device.Failed place memory is = place is
device_not e device.OutOfMemory place memory is = memory is

served_not_place : serve_end.Served ≡ serve_end.PlaceFailed → ⊥
served_not_place is = cc

served_not_memory : serve_end.Served ≡ serve_end.OutOfMemory → ⊥
served_not_memory is = cc

served_not_refused : serve_end.Served ≡ serve_end.Refused → ⊥
served_not_refused is = cc

served_not_keeper : serve_end.Served ≡ serve_end.KeeperFailed → ⊥
served_not_keeper is = cc

refused_not_place : serve_end.Refused ≡ serve_end.PlaceFailed → ⊥
refused_not_place is = cc

refused_not_memory : serve_end.Refused ≡ serve_end.OutOfMemory → ⊥
refused_not_memory is = cc

refused_not_keeper : serve_end.Refused ≡ serve_end.KeeperFailed → ⊥
refused_not_keeper is = cc

why_not : (kept : Option Kept) (why : NoJob) (old new : Front) → TellsWhy why kept serve_end.Served old new → ⊥
why_not kept (none.Refused text) old new tells = served_not_refused tells.0
why_not kept none.Keeper old new tells = served_not_keeper tells.0
why_not kept none.Input old new tells = tells
why_not kept none.OutOfMemory old new tells = served_not_memory tells.0

-- rendering pages leaves the keeper's count, and a clock more leaves that of keepers
ready_faults : (warm : Bool) (place : PlaceView) (hall hall' : HallView) → IsReady warm place hall hall' → hall'.faults ≡ hall.faults
ready_faults true place hall hall' ready = ap (λ (h : HallView). h.faults) ready.pages.same
ready_faults false place hall hall' ready = ap (λ (h : HallView). h.faults) ready

then_keeps : (warm : Bool) (place : PlaceView) → (place_then warm place).keeper_faults ≡ place.keeper_faults
then_keeps true place = refl
then_keeps false place = refl

on_ready : (what : ToServe) (old new : Outside) (status : ℕ) (store : OpensStore what serve_end.Served (front_of old) (front_of new)) (site : OpensSite what store.kept serve_end.Served (front_of old) (front_of new)) (at : OpensStations what site.hall serve_end.Served (front_of old) (front_of new))
    → ServesReady what site.hall at.stations serve_end.Served (record (front_of old) { place = at.given }) (front_of new) → status ≡ 0 → NothingFails old new → ServesAll what old new status
on_ready what old new status store site at ready is nothing =
    let since = place_then what.warm at.given in
    let served : ServedAt what ready.hall-then at.stations true since new.place = ready.does.0 in
    let answers = servers ready.hall-then served.hall-after at.stations served.stations-after served.count true served.served in
    let keepers = nothing.keepers in
    let given = then_keeps what.warm at.given ∙ given_keeps what.address at.stations old.place at.given at.stations_are in
    let stays : StaysCounted since.keeper_faults new.place.keeper_faults = subst (λ (n : ℕ). StaysCounted n new.place.keeper_faults) (sym given) keepers in
    let faults = ready_faults what.warm at.given site.hall ready.hall-then ready.is_ready ∙ site.hall_is.faults_is in
    record {
      kept = store.kept;
      told = store.told;
      hall = site.hall;
      hall_is = site.hall_is;
      stations = at.stations;
      given = at.given;
      stations_are = at.stations_are;
      workers = at.workers;
      hall-then = ready.hall-then;
      is_ready = ready.is_ready;
      served = served;
      answers = answers;
      no_keeper = answers.keepers (stays_none ready.hall-then.faults served.hall-after.faults faults (none_failed served.stations-after served.hall-after.kept served.hall-after.faults since new.place served.back stays));
      printed = ready.does.1;
      status_is = is;
    }

served_not_output : serve_end.Served ≡ serve_end.OutputFailed → ⊥
served_not_output is = cc

on_stations : (what : ToServe) (old new : Outside) (status : ℕ) (store : OpensStore what serve_end.Served (front_of old) (front_of new)) (site : OpensSite what store.kept serve_end.Served (front_of old) (front_of new)) → OpensStations what site.hall serve_end.Served (front_of old) (front_of new) → status ≡ 0 → NothingFails old new → ServesAll what old new status
on_stations what old new status store site at is nothing = elim at.does [
  | inl stops ↦ absurd (served_not_output stops.ended_is)
  | inr (inl stops) ↦ absurd stops.stops
  | inr (inr ready) ↦ on_ready what old new status store site at ready is nothing
]

on_served : (what : ToServe) (old new : Outside) (status : ℕ) → ServesStore what serve_end.Served (front_of old) (front_of new) → status ≡ 0 → NothingFails old new → ServesAll what old new status
on_served what old new status (inr no_store) is nothing = absurd (device_not serve_end.Served no_store.why served_not_place served_not_memory no_store.ended_is)
on_served what old new status (inl store) is nothing = elim store.does [
  | inl site ↦ elim site.does [
    | inl stations ↦ on_stations what old new status store site stations is nothing
    | inr stops ↦ absurd (device_not serve_end.Served stops.why served_not_place served_not_memory stops.ended_is)
  ]
  | inr no_site ↦ absurd (why_not store.kept no_site.why (front_of old) (front_of new) no_site.tells)
]

by_why : (what : ToServe) (old new : Outside) (status : ℕ) (kept : Option Kept) (why : NoJob) → HoldsTold (old.place.store what.store) kept → IsNoBase IsNoSiteOf kept why → TellsWhy why kept serve_end.Refused (front_of old) (front_of new) → status ≡ 3 → NothingFails old new → FaultsStore what.store old new status
by_why what old new status kept (none.Refused text) there refused tells is nothing = record {
  kept = kept;
  told = there;
  text = text;
  refused = refused;
  says = record { printed = printed text old.written new.written old.writing new.writing nothing.output tells.1; status_is = is };
  no_site = λ holds base at held site. no_stored_site kept text holds base refused at held site;
}
by_why what old new status kept none.Keeper there refused tells is nothing = absurd (refused_not_keeper tells.0)
by_why what old new status kept none.Input there refused tells is nothing = absurd tells
by_why what old new status kept none.OutOfMemory there refused tells is nothing = absurd (refused_not_memory tells.0)

refused_not_output : serve_end.Refused ≡ serve_end.OutputFailed → ⊥
refused_not_output is = cc

open_not_refused : (what : ToServe) (hall : HallView) (stations : List StationView) (old new : Front) → ServesOpen what hall stations serve_end.Refused old new → ⊥
open_not_refused what hall stations old new (inl stops) = refused_not_output stops.ended_is
open_not_refused what hall stations old new (inr (inl stops)) = stops.stops
open_not_refused what hall stations old new (inr (inr ready)) = ready.does

on_refused : (what : ToServe) (old new : Outside) (status : ℕ) → ServesStore what serve_end.Refused (front_of old) (front_of new) → status ≡ 3 → NothingFails old new → FaultsStore what.store old new status
on_refused what old new status (inr no_store) is nothing = absurd (device_not serve_end.Refused no_store.why refused_not_place refused_not_memory no_store.ended_is)
on_refused what old new status (inl store) is nothing = elim store.does [
  | inl site ↦ elim site.does [
    | inl stations ↦ absurd (open_not_refused what site.hall stations.stations (record (front_of old) { place = stations.given }) (front_of new) stations.does)
    | inr stops ↦ absurd (device_not serve_end.Refused stops.why refused_not_place refused_not_memory stops.ended_is)
  ]
  | inr no_site ↦ by_why what old new status store.kept no_site.why store.told no_site.none no_site.tells is nothing
]

served_by : (what : ToServe) (old new : Outside) (status : ℕ) (e : ServeEnd) → ServesStore what e (front_of old) (front_of new) → status ≡ status_of_serve e → NothingFails old new → NoneTold status → ServesOrFaults what old new status
served_by what old new status serve_end.Served does is nothing told = inl (on_served what old new status does is nothing)
served_by what old new status serve_end.Refused does is nothing told = inr (inl (on_refused what old new status does is nothing))
served_by what old new status serve_end.KeeperFailed does is nothing told = absurd (told.keeper is)
served_by what old new status serve_end.OutputFailed does is nothing told = absurd (told.output is)
served_by what old new status serve_end.PlaceFailed does is nothing told = absurd (told.place is)
served_by what old new status serve_end.OutOfMemory does is nothing told = inr (inr is)

served : (what : ToServe) (old new : Outside) (status : ℕ) → Serves what old new status ⊎ Starves old new status → NothingFails old new → NoneTold status → ServesOrFaults what old new status
served what old new status (inl does) nothing told = served_by what old new status does.ended does.does does.status_is nothing told
served what old new status (inr starves) nothing told = inr (inr starves.status_is)

-- ---- the drill

drilled_by : (number : ℕ) (old new : Outside) (status : ℕ) (e : DrillEnd) → Drills number e old.written new.written → status ≡ status_of_drill e → NoneTold status → DrillsOrFaults number old new status
drilled_by number old new status drill_end.Printed does is told =
    inl (inl (record { figures = does.figures; drilled = does.drilled; says = record { printed = does.printed; status_is = is } }))
drilled_by number old new status drill_end.OutputFailed does is told = absurd (told.output is)
drilled_by number old new status drill_end.NoSite does is told = inl (inr (record { no_site = does.1; status_is = is }))
drilled_by number old new status drill_end.Unanswered does is told = inr (inl (record { no_requests = does.1; status_is = is }))
drilled_by number old new status drill_end.OutOfMemory does is told = inr (inr is)

drilled : (number : ℕ) (old new : Outside) (status : ℕ) → DrillsOrStarves number old new status → NoneTold status → DrillsOrFaults number old new status
drilled number old new status (inl does) told = drilled_by number old new status does.ended does.does does.status_is told
drilled number old new status (inr starves) told = inr (inr starves.status_is)

-- ---- all jobs

faults : (asked : Option Asked) (old new : Outside) (status : ℕ) → Runs asked old new status → RunsWithCause asked old new status → TellsFaults old new status
faults None old new status does cause = of_job old new status cause
faults (Some (replay None)) old new status does cause = of_job old new status cause
faults (Some (replay (Some path))) old new status does cause = of_job old new status cause
faults (Some (serves what)) old new status does cause = of_serving old new status what does cause
faults (Some (imports path)) old new status does cause = of_job old new status cause
faults (Some (exports path)) old new status does cause = of_job old new status cause
faults (Some (checks path)) old new status does cause = of_job old new status cause
faults (Some (lists path)) old new status does cause = of_job old new status cause
faults (Some (drills number)) old new status does cause = of_job old new status cause

completes : (asked : Option Asked) (old new : Outside) (status : ℕ) → Runs asked old new status → RunsWithCause asked old new status → NothingFails old new → NoneTold status → Completes asked old new status
completes None old new status (inl refuses) cause nothing told =
    inl (record { printed = printed usage old.written new.written old.writing new.writing nothing.output refuses.sink; status_is = refuses.status_is })
completes None old new status (inr starves) cause nothing told = inr starves.status_is
completes (Some (replay None)) old new status does cause nothing told = answers starter_site old new status does cause nothing told
completes (Some (replay (Some path))) old new status does cause nothing told = answers_file path old new status does cause nothing told
completes (Some (serves what)) old new status does cause nothing told = served what old new status does nothing told
completes (Some (imports path)) old new status does cause nothing told = imported path old new status does nothing told
completes (Some (exports path)) old new status does cause nothing told = tells exported path old new status does nothing told
completes (Some (checks path)) old new status does cause nothing told = tells checked path old new status does nothing told
completes (Some (lists path)) old new status does cause nothing told = tells targets_text path old new status does nothing told
completes (Some (drills number)) old new status does cause nothing told = drilled number old new status does told

-- statuses that jobs don't have
no_connection : (e : Ended) (n : ℕ) → (n ≡ 2) ⊎ (n ≡ 4) → status_of e ≡ n → ⊥
no_connection ended.Closed n two is = elim two [ inl a ↦ omega (arith, a, is) | inr b ↦ omega (arith, b, is) ]
no_connection ended.Asked n two is = elim two [ inl a ↦ omega (arith, a, is) | inr b ↦ omega (arith, b, is) ]
no_connection ended.Spent n two is = elim two [ inl a ↦ omega (arith, a, is) | inr b ↦ omega (arith, b, is) ]
no_connection (ended.Refused code) n two is = elim two [ inl a ↦ omega (arith, a, is) | inr b ↦ omega (arith, b, is) ]
no_connection (ended.Truncated m) n two is = elim two [ inl a ↦ omega (arith, a, is) | inr b ↦ omega (arith, b, is) ]
no_connection ended.ReadFault n two is = elim two [ inl a ↦ omega (arith, a, is) | inr b ↦ omega (arith, b, is) ]
no_connection ended.WriteFault n two is = elim two [ inl a ↦ omega (arith, a, is) | inr b ↦ omega (arith, b, is) ]
no_connection ended.OutOfMemory n two is = elim two [ inl a ↦ omega (arith, a, is) | inr b ↦ omega (arith, b, is) ]

no_drill : (e : DrillEnd) (n : ℕ) → (n ≡ 2) ⊎ (n ≡ 4) → status_of_drill e ≡ n → ⊥
no_drill drill_end.Printed n two is = elim two [ inl a ↦ omega (arith, a, is) | inr b ↦ omega (arith, b, is) ]
no_drill drill_end.NoSite n two is = elim two [ inl a ↦ omega (arith, a, is) | inr b ↦ omega (arith, b, is) ]
no_drill drill_end.OutputFailed n two is = elim two [ inl a ↦ omega (arith, a, is) | inr b ↦ omega (arith, b, is) ]
no_drill drill_end.Unanswered n two is = elim two [ inl a ↦ omega (arith, a, is) | inr b ↦ omega (arith, b, is) ]
no_drill drill_end.OutOfMemory n two is = elim two [ inl a ↦ omega (arith, a, is) | inr b ↦ omega (arith, b, is) ]

no_job : (e : JobEnd) → status_of_job e ≡ 2 → ⊥
no_job job_end.Done is = omega (arith, is)
no_job job_end.Refused is = omega (arith, is)
no_job job_end.KeeperFailed is = omega (arith, is)
no_job job_end.InputFailed is = omega (arith, is)
no_job job_end.OutputFailed is = omega (arith, is)
no_job job_end.OutOfMemory is = omega (arith, is)

no_serve : (e : ServeEnd) → status_of_serve e ≡ 2 → ⊥
no_serve serve_end.Served is = omega (arith, is)
no_serve serve_end.Refused is = omega (arith, is)
no_serve serve_end.KeeperFailed is = omega (arith, is)
no_serve serve_end.OutputFailed is = omega (arith, is)
no_serve serve_end.PlaceFailed is = omega (arith, is)
no_serve serve_end.OutOfMemory is = omega (arith, is)

-- ---- no command line

no_tell : (said : State → List ℕ) (path : List ℕ) (old new : Outside) (status : ℕ) → TellsOrNot said path old new status → status ≡ 2 → ⊥
no_tell said path old new status (inl does) two = no_job does.ended (sym does.status_is ∙ two)
no_tell said path old new status (inr (inl fails)) two = let seven = fails.status_is in omega arith
no_tell said path old new status (inr (inr starves)) two = let nine = starves.status_is in omega arith

words : (asked : Option Asked) (old new : Outside) (status : ℕ) → Runs asked old new status → status ≡ 2 → asked ≡ None
words None old new status does two = refl
words (Some (replay None)) old new status (inl r) two = absurd (no_connection r.end 2 (inl refl) (sym r.status_is ∙ two))
words (Some (replay None)) old new status (inr starves) two = let nine = starves.status_is in absurd (omega arith)
words (Some (replay (Some path))) old new status (inl (inl file)) two = absurd (no_connection file.replays.end 2 (inl refl) (sym file.replays.status_is ∙ two))
words (Some (replay (Some path))) old new status (inl (inr refused)) two = let three = refused.status_is in absurd (omega arith)
words (Some (replay (Some path))) old new status (inr (inl fails)) two = let seven = fails.status_is in absurd (omega arith)
words (Some (replay (Some path))) old new status (inr (inr starves)) two = let nine = starves.status_is in absurd (omega arith)
words (Some (serves what)) old new status (inl does) two = absurd (no_serve does.ended (sym does.status_is ∙ two))
words (Some (serves what)) old new status (inr starves) two = let nine = starves.status_is in absurd (omega arith)
words (Some (imports path)) old new status (inl does) two = absurd (no_job does.ended (sym does.status_is ∙ two))
words (Some (imports path)) old new status (inr (inl fails)) two = let seven = fails.status_is in absurd (omega arith)
words (Some (imports path)) old new status (inr (inr starves)) two = let nine = starves.status_is in absurd (omega arith)
words (Some (exports path)) old new status does two = absurd (no_tell exported path old new status does two)
words (Some (checks path)) old new status does two = absurd (no_tell checked path old new status does two)
words (Some (lists path)) old new status does two = absurd (no_tell targets_text path old new status does two)
words (Some (drills number)) old new status (inl does) two = absurd (no_drill does.ended 2 (inl refl) (sym does.status_is ∙ two))
words (Some (drills number)) old new status (inr starves) two = let nine = starves.status_is in absurd (omega arith)

-- ---- a keeper that failed

silent_job : (said : State → List ℕ) (old new : Outside) (kept : Option Kept) (e : JobEnd) → TellsBy said e (around_job kept old) (around_job kept new) → status_of_job e ≡ 4 → new.written ≡ old.written
silent_job said old new kept job_end.Done does is = absurd (omega (arith, is))
silent_job said old new kept job_end.Refused does is = absurd (omega (arith, is))
silent_job said old new kept job_end.KeeperFailed does is = does
silent_job said old new kept job_end.InputFailed does is = absurd does
silent_job said old new kept job_end.OutputFailed does is = absurd (omega (arith, is))
silent_job said old new kept job_end.OutOfMemory does is = absurd (omega (arith, is))

silent_tell : (said : State → List ℕ) (path : List ℕ) (old new : Outside) (status : ℕ) → TellsOrNot said path old new status → status ≡ 4 → new.written ≡ old.written
silent_tell said path old new status (inl does) four = silent_job said old new does.kept does.ended does.does (sym does.status_is ∙ four)
silent_tell said path old new status (inr (inl fails)) four = fails.sink
silent_tell said path old new status (inr (inr starves)) four = starves.sink

silent_import : (left : Option (List ℕ)) (old new : Outside) (kept kept' : Option Kept) (e : JobEnd) → Imports left e (around_job kept old) (around_job kept' new) → status_of_job e ≡ 4 → new.written ≡ old.written
silent_import left old new kept kept' job_end.Done does is = absurd (omega (arith, is))
silent_import left old new kept kept' job_end.Refused does is = absurd (omega (arith, is))
silent_import left old new kept kept' job_end.KeeperFailed does is = does.written
silent_import left old new kept kept' job_end.InputFailed does is = does.1
silent_import left old new kept kept' job_end.OutputFailed does is = absurd (omega (arith, is))
silent_import left old new kept kept' job_end.OutOfMemory does is = does.written

keeper_not_refused : serve_end.KeeperFailed ≡ serve_end.Refused → ⊥
keeper_not_refused is = cc

silent_why : (kept : Option Kept) (why : NoJob) (old new : Front) → TellsWhy why kept serve_end.KeeperFailed old new → new.written ≡ old.written
silent_why kept (none.Refused text) old new tells = absurd (keeper_not_refused tells.0)
silent_why kept none.Keeper old new tells = tells.1
silent_why kept none.Input old new tells = absurd tells
silent_why kept none.OutOfMemory old new tells = tells.1

keeper_not_output : serve_end.KeeperFailed ≡ serve_end.OutputFailed → ⊥
keeper_not_output is = cc

open_not_keeper : (what : ToServe) (hall : HallView) (stations : List StationView) (old new : Front) → ServesOpen what hall stations serve_end.KeeperFailed old new → ⊥
open_not_keeper what hall stations old new (inl stops) = keeper_not_output stops.ended_is
open_not_keeper what hall stations old new (inr (inl stops)) = stops.stops
open_not_keeper what hall stations old new (inr (inr ready)) = ready.does

silent_store : (what : ToServe) (old new : Outside) → ServesStore what serve_end.KeeperFailed (front_of old) (front_of new) → new.written ≡ old.written
silent_store what old new (inr no_store) = no_store.printed
silent_store what old new (inl store) = elim store.does [
  | inl site ↦ elim site.does [
    | inl stations ↦ absurd (open_not_keeper what site.hall stations.stations (record (front_of old) { place = stations.given }) (front_of new) stations.does)
    | inr stops ↦ stops.printed
  ]
  | inr no_site ↦ silent_why store.kept no_site.why (front_of old) (front_of new) no_site.tells
]

silent_serve : (what : ToServe) (old new : Outside) (e : ServeEnd) → ServesStore what e (front_of old) (front_of new) → status_of_serve e ≡ 4 → new.written ≡ old.written
silent_serve what old new serve_end.Served does is = absurd (omega (arith, is))
silent_serve what old new serve_end.Refused does is = absurd (omega (arith, is))
silent_serve what old new serve_end.KeeperFailed does is = silent_store what old new does
silent_serve what old new serve_end.OutputFailed does is = absurd (omega (arith, is))
silent_serve what old new serve_end.PlaceFailed does is = absurd (omega (arith, is))
silent_serve what old new serve_end.OutOfMemory does is = absurd (omega (arith, is))

silent : (asked : Option Asked) (old new : Outside) (status : ℕ) → Runs asked old new status → status ≡ 4 → new.written ≡ old.written
silent None old new status (inl refuses) four = let two = refuses.status_is in absurd (omega arith)
silent None old new status (inr starves) four = starves.sink
silent (Some (replay None)) old new status (inl r) four = absurd (no_connection r.end 4 (inr refl) (sym r.status_is ∙ four))
silent (Some (replay None)) old new status (inr starves) four = starves.sink
silent (Some (replay (Some path))) old new status (inl (inl file)) four = absurd (no_connection file.replays.end 4 (inr refl) (sym file.replays.status_is ∙ four))
silent (Some (replay (Some path))) old new status (inl (inr refused)) four = let three = refused.status_is in absurd (omega arith)
silent (Some (replay (Some path))) old new status (inr (inl fails)) four = fails.sink
silent (Some (replay (Some path))) old new status (inr (inr starves)) four = starves.sink
silent (Some (serves what)) old new status (inl does) four = silent_serve what old new does.ended does.does (sym does.status_is ∙ four)
silent (Some (serves what)) old new status (inr starves) four = starves.sink
silent (Some (imports path)) old new status (inl does) four = silent_import old.left old new does.kept does.kept-after does.ended does.does (sym does.status_is ∙ four)
silent (Some (imports path)) old new status (inr (inl fails)) four = fails.sink
silent (Some (imports path)) old new status (inr (inr starves)) four = starves.sink
silent (Some (exports path)) old new status does four = silent_tell exported path old new status does four
silent (Some (checks path)) old new status does four = silent_tell checked path old new status does four
silent (Some (lists path)) old new status does four = silent_tell targets_text path old new status does four
silent (Some (drills number)) old new status (inl does) four = absurd (no_drill does.ended 4 (inr refl) (sym does.status_is ∙ four))
silent (Some (drills number)) old new status (inr starves) four = starves.sink

pub runs : RunsComplete
runs asked old new status does cause =
    let told = faults asked old new status does cause in
    record { words = words asked old new status does; silent = silent asked old new status does; faults = told; completes = λ nothing. completes asked old new status does cause nothing (none_told old new status told nothing) }
