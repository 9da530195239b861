-- What serving leaves in a store, where the place told what it held.
use Rattle.std.proofs.Common.{◌≡◌, ◌∙◌, ◌⊎◌, inl, inr, ℕ, zero, suc, List, [], ◌∷◌, ◌++◌, Bool, true, false, Option, Some, None, refl, sym, ap, subst, arith}
use Rattle.content_state.specs.Replay.{replay}
use Rattle.content_state.specs.State.{State}
use Rattle.content_state.specs.declared.commit.Commit.{Commit}
use Rattle.site_cli.specs.Outside.{Outside, Starves}
use Rattle.site_cli.specs.Serving.{Serves, front_of, status_of_serve}
use Rattle.site_cli.specs.Words.{replay as replays, serves, imports, exports, checks, lists, drills}
use Rattle.site_hall.specs.Hall.{HallView, IsHall}
use Rattle.site_jobs.specs.Ground.{Holds}
use Rattle.site_jobs.specs.Jobs.{checked, exported}
use Rattle.site_jobs.specs.declared.fault.NoJob.{NoJob}
use Rattle.site_jobs.specs.declared.fault.NoJob.TheVariants as none
use Rattle.site_keeper.proofs.Keeping.{log_held}
use Rattle.site_keeper.specs.Keeper.{Kept}
use Rattle.site_keeper.specs.Batch.{Batch}
use Rattle.site_keeper.specs.Keeping.{and_batches, batches_of, with_pending, HasKept, HoldsState}
use Rattle.site_keeper.specs.Memory.{made_of}
use Rattle.site_keeper.specs.Steps.{stored_of}
use Rattle.site_keeper.specs.declared.stored.Stored.{Stored}
use Rattle.site_places.specs.Place.{there, IsNoDevice, KeeperBack, PlaceView}
use Rattle.site_places.specs.declared.place.NoDevice.{NoDevice}
use Rattle.site_places.specs.declared.place.NoDevice.TheVariants as device
use Rattle.site_serve.specs.Stations.{StationView}
use Rattle.site_targets.specs.Targets.{targets_text}
use Rattle.serve_store.specs.Job.{end_of, then_listening, Front, IsOpened, OpensNoStore, OpensStations, ServedAt, ServedNone, ServesHall, ServesStore, TellsWhy, ToServe, WorksAt}
use Rattle.serve_store.specs.Stations.{StationsGiven}
use Rattle.serve_store.specs.Warming.{place_then, IsReady, StopsBy}
use Rattle.serve_store.specs.declared.ending.ServeEnd.{ServeEnd}
use Rattle.serve_store.specs.declared.ending.ServeEnd.TheVariants as serve_end
use Rattle.table_runs.proofs.Leaving.{import_ends, listed_told, opened_told, starves, text_ends}
use Rattle.table_runs.specs.Leaves.{IsUnopened, LeavesEdits, ServeEnds, ServeLeaves, ServesFrom, StoresTell, Told}

-- ---- what is given back

keeper_told : (kept : Option Kept) (faults : ℕ) (old new : PlaceView) → KeeperBack kept faults old new → new.returned ≡ kept
keeper_told kept zero old new back = ap (λ (p : PlaceView). p.returned) (back.0 refl)
keeper_told kept (suc faults) old new back = ap (λ (p : PlaceView). p.returned) (back.1 (omega arith)).same

-- what tells goes on to tell
told_on : (kept : Kept) (batches : List Batch) → (more : Kept) × (and_batches (Some kept) batches ≡ Some more)
told_on kept [] = (kept, refl)
told_on kept (batch ∷ batches) = told_on (record kept { batches = kept.batches ++ batch ∷ [] }) batches

-- a keeper that told a state, and kept the batches of these edits since, tells what these edits make of it
published : (listed : Stored) (opened kept returned : Option Kept) (base : State) (log : List Commit) → opened ≡ Some (made_of listed) → HoldsState opened base → kept ≡ and_batches opened (batches_of base log) → returned ≡ kept
    → Told returned (stored_of (replay base log))
published listed opened kept returned base log is loaded same back =
    let more = told_on (made_of listed) (batches_of base log) in
    let held = log_held (Some (made_of listed)) base log (subst (λ (o : Option Kept). HoldsState o base) is loaded) in
    record {
      kept = more.0;
      is = back ∙ same ∙ ap (λ (o : Option Kept). and_batches o (batches_of base log)) is ∙ more.1;
      holds = subst (λ (o : Option Kept). HoldsState o (replay base log)) more.1 held;
    }

leaves_edits : (listed : Stored) (returned : Option Kept) (hall : HallView) → IsHall hall → hall.opened ≡ Some (made_of listed) → returned ≡ hall.kept → LeavesEdits (Told returned) hall
leaves_edits listed returned hall is_hall is back = elim is_hall.keeps [
  | inl kept ↦ inl (published listed hall.opened hall.kept returned hall.base hall.log is is_hall.loaded kept back)
  | inr kept ↦ by_pending hall.pending refl kept
]
  where
    by_pending : (p : Option Commit) → hall.pending ≡ p → HasKept hall.base hall.opened hall.kept (with_pending hall.log p) → LeavesEdits (Told returned) hall
    by_pending None none kept = inl (published listed hall.opened hall.kept returned hall.base hall.log is is_hall.loaded kept back)
    by_pending (Some commit) some kept =
        inr (commit, some, published listed hall.opened hall.kept returned hall.base (hall.log ++ commit ∷ []) is is_hall.loaded kept back)

-- ---- the engine of the store

-- the engine that the workers begin with is that of the store, but for what it keeps of pages
ready_opened : (warm : Bool) (place : PlaceView) (hall hall' : HallView) → IsReady warm place hall hall' → hall'.opened ≡ hall.opened
ready_opened true place hall hall' ready = ap (λ (h : HallView). h.opened) ready.pages.same
ready_opened false place hall hall' ready = ap (λ (h : HallView). h.opened) ready

ready_kept : (warm : Bool) (place : PlaceView) (hall hall' : HallView) → IsReady warm place hall hall' → hall'.kept ≡ hall.kept
ready_kept true place hall hall' ready = ap (λ (h : HallView). h.kept) ready.pages.same
ready_kept false place hall hall' ready = ap (λ (h : HallView). h.kept) ready

ready_base : (warm : Bool) (place : PlaceView) (hall hall' : HallView) → IsReady warm place hall hall' → hall'.base ≡ hall.base
ready_base true place hall hall' ready = ap (λ (h : HallView). h.base) ready.pages.same
ready_base false place hall hall' ready = ap (λ (h : HallView). h.base) ready

-- an end before the workers start
abbrev MayStop : ServeEnd → Type 0
MayStop serve_end.OutputFailed = Unit {0}
MayStop serve_end.PlaceFailed = Unit {0}
MayStop serve_end.OutOfMemory = Unit {0}
MayStop _ = ⊥

device_stops : (why : NoDevice) → MayStop (end_of why)
device_stops device.Failed = tt
device_stops device.OutOfMemory = tt

warming_stops : (e : ServeEnd) (hall : HallView) (old new : Option (List ℕ)) → StopsBy e hall old new → MayStop e
warming_stops serve_end.OutputFailed hall old new stops = tt
warming_stops serve_end.OutOfMemory hall old new stops = tt
warming_stops serve_end.Served hall old new stops = stops
warming_stops serve_end.Refused hall old new stops = stops
warming_stops serve_end.KeeperFailed hall old new stops = stops
warming_stops serve_end.PlaceFailed hall old new stops = tt

module _ (what : ToServe) (listed : Stored) (old new : Outside) (kept : Option Kept) (is : kept ≡ Some (made_of listed)) where
  Leaves : ServeEnd → Type 0
  Leaves e = ServeLeaves (Told new.place.returned) listed what e old new

  stopped : (e : ServeEnd) → MayStop e → Told new.place.returned listed → Leaves e
  unfolding Leaves
  stopped serve_end.OutputFailed may told = inl told
  stopped serve_end.PlaceFailed may told = inl told
  stopped serve_end.OutOfMemory may told = told
  stopped serve_end.Served may told = absurd may
  stopped serve_end.Refused may told = absurd may
  stopped serve_end.KeeperFailed may told = absurd may

  module _ (hall : HallView) (hall_is : IsOpened kept 0 hall) where
    none_told : (stations : List StationView) (mid : PlaceView) → ServedNone hall stations mid new.place → Told new.place.returned listed
    none_told stations mid back = listed_told new.place.returned listed (keeper_told hall.kept hall.faults back.middle new.place back.keeper ∙ hall_is.kept_is ∙ is)

    module _ (stations : List StationView) (given : PlaceView) (stations_are : StationsGiven what.address stations old.place given) (hall-then : HallView) (is_ready : IsReady what.warm given hall hall-then) where
      from_workers : (whole : Bool) → ServedAt what hall-then stations whole (place_then what.warm given) new.place → ServesFrom (Told new.place.returned) listed what whole old new
      from_workers whole served =
          let opened = served.goes_on.opened ∙ ready_opened what.warm given hall hall-then is_ready ∙ hall_is.opened ∙ is in
          let back = keeper_told served.hall-after.kept served.hall-after.faults served.back.middle new.place served.back.keeper in
          record {
            hall = hall;
            hall_is = subst (λ (k : Option Kept). IsOpened k 0 hall) is hall_is;
            held = subst (λ (k : Option Kept). Holds k hall.base) is hall_is.base;
            stations = stations;
            given = given;
            stations_are = stations_are;
            hall-then = hall-then;
            is_ready = is_ready;
            served = served;
            base_is = served.goes_on.base ∙ ready_base what.warm given hall hall-then is_ready;
            leaves = leaves_edits listed new.place.returned served.hall-after served.is_hall opened back;
          }

      worked : (e : ServeEnd) (old-front : Front) → old-front.place ≡ place_then what.warm given → WorksAt what hall-then stations e old-front (front_of new) → Leaves e
      unfolding Leaves
      worked serve_end.Served old-front at works = from_workers true (subst (λ (p : PlaceView). ServedAt what hall-then stations true p new.place) at works.0)
      worked serve_end.OutputFailed old-front at works = inr (from_workers true (subst (λ (p : PlaceView). ServedAt what hall-then stations true p new.place) at works.0))
      worked serve_end.PlaceFailed old-front at works = inr (from_workers false (subst (λ (p : PlaceView). ServedAt what hall-then stations false p new.place) at works.0))
      worked serve_end.OutOfMemory old-front at works =
          listed_told new.place.returned listed (keeper_told hall-then.kept hall-then.faults works.0.middle new.place works.0.keeper ∙ ready_kept what.warm given hall hall-then is_ready ∙ hall_is.kept_is ∙ is)
      worked serve_end.Refused old-front at works = absurd works
      worked serve_end.KeeperFailed old-front at works = absurd works

    by_open : (e : ServeEnd) (at : OpensStations what hall e (front_of old) (front_of new)) → Leaves e
    by_open e at = elim at.does [
      | inl stops ↦ stopped e (subst MayStop (sym stops.ended_is) tt) (none_told at.stations at.given stops.back)
      | inr (inl stops) ↦ stopped e (warming_stops e hall (then_listening what (record (front_of old) { place = at.given })) new.written stops.stops) (none_told at.stations (place_then true at.given) stops.back)
      | inr (inr ready) ↦ worked at.stations at.given at.stations_are ready.hall-then ready.is_ready e _ refl ready.does
    ]

    by_hall : (e : ServeEnd) → ServesHall what hall e (front_of old) (front_of new) → Leaves e
    by_hall e (inl at) = by_open e at
    by_hall e (inr stops) = stopped e (subst MayStop (sym stops.ended_is) (device_stops stops.why)) (none_told stops.stations stops.by-then stops.back)

  -- what it holds is no site, or it wasn't loaded: it was given back as it was
  by_why : (why : NoJob) (e : ServeEnd) → TellsWhy why kept e (front_of old) (front_of new) → Leaves e
  unfolding Leaves
  by_why (none.Refused text) e tells = subst (λ (e : ServeEnd). Leaves e) (sym tells.0) (listed_told new.place.returned listed (ap (λ (p : PlaceView). p.returned) tells.2 ∙ is))
  by_why none.Keeper e tells = subst (λ (e : ServeEnd). Leaves e) (sym tells.0) (listed_told new.place.returned listed (ap (λ (p : PlaceView). p.returned) tells.2.same ∙ is))
  by_why none.Input e tells = absurd tells
  by_why none.OutOfMemory e tells = subst (λ (e : ServeEnd). Leaves e) (sym tells.0) (listed_told new.place.returned listed (ap (λ (p : PlaceView). p.returned) tells.2 ∙ is))

-- ---- serving, by how it ended

no_store : (e : ServeEnd) (old new : Outside) (status : ℕ) → OpensNoStore e (front_of old) (front_of new) → status ≡ status_of_serve e → IsUnopened old new status
no_store e old new status none ends = by_device none.why none.stops none.ended_is
  where
    by_device : (why : NoDevice) → IsNoDevice old.place new.place why → e ≡ end_of why → IsUnopened old new status
    by_device device.Failed stops is = record { returned = ap (λ (p : PlaceView). p.returned) stops.same; status_is = inl (ends ∙ ap status_of_serve is) }
    by_device device.OutOfMemory stops is = record { returned = ap (λ (p : PlaceView). p.returned) stops; status_is = inr (ends ∙ ap status_of_serve is) }

serve_by : (what : ToServe) (listed : Stored) (old new : Outside) (status : ℕ) (e : ServeEnd) → old.place.store what.store ≡ there (made_of listed) → ServesStore what e (front_of old) (front_of new) → status ≡ status_of_serve e
    → ServeEnds (Told new.place.returned) listed what old new status ⊎ IsUnopened old new status
unfolding Leaves
serve_by what listed old new status e is (inr none) ends = inr (no_store e old new status none ends)
serve_by what listed old new status e is (inl store) ends =
    let kept = opened_told (old.place.store what.store) store.kept listed is store.told in
    inl (record {
      ended = e;
      status_is = ends;
      leaves = elim store.does [
        | inl site ↦ by_hall what listed old new store.kept kept site.hall site.hall_is e site.does
        | inr no_site ↦ by_why what listed old new store.kept kept no_site.why e no_site.tells
      ];
    })

serve_ends : (what : ToServe) (listed : Stored) (old new : Outside) (status : ℕ) → old.place.store what.store ≡ there (made_of listed) → Serves what old new status ⊎ Starves old new status
    → ServeEnds (Told new.place.returned) listed what old new status ⊎ IsUnopened old new status
serve_ends what listed old new status is (inl does) = serve_by what listed old new status does.ended is does.does does.status_is
serve_ends what listed old new status is (inr starved) = inr (starves old new status starved)

-- ---- all jobs

at_path : (old : Outside) (store path : List ℕ) (listed : Stored) → old.place.store path ≡ there (made_of listed) → store ≡ path → old.place.store store ≡ there (made_of listed)
at_path old store path listed is same = ap old.place.store same ∙ is

pub stores_tell : StoresTell
stores_tell None path listed old new status is runs = tt
stores_tell (Some (replays file)) path listed old new status is runs = tt
stores_tell (Some (serves what)) path listed old new status is runs = λ same. serve_ends what listed old new status (at_path old what.store path listed is same) runs
stores_tell (Some (imports store)) path listed old new status is runs = λ same. import_ends store listed old new status (at_path old store path listed is same) runs
stores_tell (Some (exports store)) path listed old new status is runs = λ same. text_ends exported store listed old new status (at_path old store path listed is same) runs
stores_tell (Some (checks store)) path listed old new status is runs = λ same. text_ends checked store listed old new status (at_path old store path listed is same) runs
stores_tell (Some (lists store)) path listed old new status is runs = λ same. text_ends targets_text store listed old new status (at_path old store path listed is same) runs
stores_tell (Some (drills number)) path listed old new status is runs = tt
