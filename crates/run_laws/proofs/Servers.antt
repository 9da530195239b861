-- What many workers did, worker by worker.
use Rattle.std.proofs.Common.{◌≡◌, ◌∙◌, ◌&&◌, ◌⊎◌, ℕ, zero, suc, List, [], ◌∷◌, Bool, true, false, true≢false, All, map, inl, inr, refl, sym, subst}
use Rattle.std.specs.List.{AllZip, list_all}
use Rattle.std.proofs.lemmas.List.Elements.{All-head, All-tail, All-weaker}
use Rattle.site_io.specs.Told.{Rose}
use Rattle.site_house.specs.History.{History}
use Rattle.site_house.specs.House.{CountRose}
use Rattle.site_hall.specs.Hall.{HallView}
use Rattle.site_http.specs.Work.{Bench, CountsDoor}
use Rattle.site_http.specs.declared.worker.Worked.{Worked}
use Rattle.site_http.specs.declared.worker.Worked.TheVariants.{NoMore, DoorFault}
use Rattle.site_serve.specs.Stations.{StationView}
use Rattle.site_serve.specs.Serving.{Shift, IsShift, ServesOver, HaveServed, had_no_more, bench_of, history_in}
use Rattle.run_laws.specs.Complete.{StaysCounted}
use Rattle.run_laws.specs.Served.{AreSteady, AreWhole, IsWholeShift, NoDoorFails, ServersComplete, SomeDoorFails}
use Rattle.run_laws.proofs.Completing.{steady, workers}

-- ---- connections

are_whole : (whole : History) (count : ℕ) (old new : Bench) (served : ServesOver whole count old new) → AreWhole whole count old new served
are_whole whole zero old new served = tt
are_whole whole (suc count) old new served =
    (are_whole whole count old served.middle served.before, workers served.middle (record new { history = whole }) served.next)

whole_shift : (old new : HallView) (shift : Shift) → IsShift old new shift → IsWholeShift old new shift
whole_shift old new shift is = record {
  is = is;
  connections =
      are_whole (history_in old shift.number new.log) shift.count
      (bench_of shift.before [] 0 (history_in old shift.number old.log))
      (bench_of shift.after shift.handed shift.keepers (history_in old shift.number shift.seen)) is.serves;
}

-- ---- doors

same_count : (worked : Worked) (old new : ℕ) → had_no_more worked ≡ true → CountsDoor worked old new → new ≡ old
same_count NoMore old new no_more counts = counts
same_count DoorFault old new no_more counts = absurd (true≢false (sym no_more))

more_faults : (worked : Worked) (old new : ℕ) → had_no_more worked ≡ false → CountsDoor worked old new → Rose old new
more_faults NoMore old new fault counts = absurd (true≢false fault)
more_faults DoorFault old new fault counts = counts

both : (a b : Bool) → (a && b) ≡ true → (a ≡ true) × (b ≡ true)
both true b is = (refl, is)
both false b is = absurd (true≢false (sym is))

abbrev all_no_more : List Shift → Bool
all_no_more shifts = list_all (λ shift. had_no_more shift.worked) shifts

abbrev firsts : List Shift → List StationView
firsts shifts = map (λ (s : Shift). s.before) shifts

abbrev lasts : List Shift → List StationView
lasts shifts = map (λ (s : Shift). s.after) shifts

steady_doors : (old new : HallView) (shifts : List Shift) → All (IsShift old new) shifts → all_no_more shifts ≡ true → AreSteady (firsts shifts) (lasts shifts)
steady_doors old new [] each is = tt
steady_doors old new (shift ∷ shifts) each is =
    let parts = both (had_no_more shift.worked) (all_no_more shifts) is in (
      same_count shift.worked shift.before.faults shift.after.faults parts.0 (All-head (IsShift old new) shift shifts each).door,
      steady_doors old new shifts (All-tail (IsShift old new) shift shifts each) parts.1,
    )

failing_door : (old new : HallView) (shifts : List Shift) → All (IsShift old new) shifts → all_no_more shifts ≡ false → SomeDoorFails (firsts shifts) (lasts shifts)
failing_door old new [] each is = absurd (true≢false is)
failing_door old new (shift ∷ shifts) each is =
    elim (had_no_more shift.worked) as (λ (b : Bool). had_no_more shift.worked ≡ b → (b && all_no_more shifts) ≡ false → SomeDoorFails (firsts (shift ∷ shifts)) (lasts (shift ∷ shifts))) [
      | true ↦ λ here rest. inr (failing_door old new shifts (All-tail (IsShift old new) shift shifts each) rest)
      | false ↦ λ here rest. inl (more_faults shift.worked shift.before.faults shift.after.faults here (All-head (IsShift old new) shift shifts each).door)
    ] refl is

none_and_some : (before after : List StationView) → NoDoorFails before after → SomeDoorFails before after → ⊥
none_and_some [] after none some = some
none_and_some (old ∷ before) [] none some = some
none_and_some (old ∷ before) (new ∷ after) none (inl rose) = steady old.faults new.faults none.0 rose
none_and_some (old ∷ before) (new ∷ after) none (inr some) = none_and_some before after none.1 some

by_whole : (before after : List StationView) (whole : Bool) → (whole ≡ false → SomeDoorFails before after) → NoDoorFails before after → whole ≡ true
by_whole before after true some none = refl
by_whole before after false some none = absurd (none_and_some before after none (some refl))

-- ---- the keeper

none_failed : (keepers old new : ℕ) → StaysCounted old new → (keepers ≡ 0) ⊎ CountRose old new → keepers ≡ 0
none_failed keepers old new stays (inl none) = none
none_failed keepers old new stays (inr rose) = absurd (steady old new stays rose)

-- ---- all workers

pub servers : ServersComplete
servers old new before after count whole served =
    let shifts = served.shifts in
    let some : whole ≡ false → SomeDoorFails before after =
    λ is. subst (λ (b : List StationView). SomeDoorFails b after) served.before_are
    (subst (λ (a : List StationView). SomeDoorFails (firsts shifts) a) served.after_are
    (failing_door old new shifts served.each (sym served.whole_is ∙ is))) in
    record {
      each = All-weaker (IsShift old new) (IsWholeShift old new) (λ shift is. whole_shift old new shift is) shifts served.each;
      all = λ is. subst (λ (b : List StationView). AreSteady b after) served.before_are
          (subst (λ (a : List StationView). AreSteady (firsts shifts) a) served.after_are
          (steady_doors old new shifts served.each (sym served.whole_is ∙ is)));
      some = some;
      exact = by_whole before after whole some;
      keepers = λ stays. All-weaker (IsShift old new) (λ (shift : Shift). shift.keepers ≡ 0) (λ shift is. none_failed shift.keepers old.faults new.faults stays is.cause) shifts served.each;
    }
