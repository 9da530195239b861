-- Which doors have failed once workers have served.
use Rattle.std.proofs.Common.{◌≡◌, ◌∙◌, ℕ, ◌<◌, List, [], ◌∷◌, length, map, Bool, true, false, ◌&&◌, true≢false, inl, inr, refl, sym, ap, subst, arith}
use Rattle.std.specs.List.{All, list_all}
use Rattle.std.proofs.lemmas.List.{length-map}
use Rattle.std.proofs.lemmas.List.Elements.{All-head, All-tail}
use Rattle.site_io.specs.Told.{Rose}
use Rattle.site_hall.specs.Hall.{HallView, IsHall}
use Rattle.site_http.specs.Work.{CountsDoor}
use Rattle.site_http.specs.declared.worker.Worked.{Worked}
use Rattle.site_http.specs.declared.worker.Worked.TheVariants.{NoMore, DoorFault}
use Rattle.site_serve.specs.Serving.{Shift, IsShift, had_no_more, GoesOn, HaveServed}
use Rattle.site_serve.specs.Stations.{StationView}
use Rattle.serve_store.specs.Job.{Front, PrintsCount, ServedAt, ToServe, WorksAt}
use Rattle.serve_store.specs.Stations.{AllBack, AreUnused, HasFailed}
use Rattle.serve_store.specs.Texts.{served_text}
use Rattle.serve_store.specs.declared.ending.ServeEnd.{ServeEnd}
use Rattle.serve_store.specs.declared.ending.ServeEnd.TheVariants as end

same_count : (worked : Worked) (old new : ℕ) → had_no_more worked ≡ true → CountsDoor worked old new → new ≡ old
same_count NoMore old new no_more counts = counts
same_count DoorFault old new no_more counts = absurd (true≢false (sym no_more))

more_faults : (worked : Worked) (old new : ℕ) → had_no_more worked ≡ false → CountsDoor worked old new → old ≡ 0 → 0 < new
more_faults NoMore old new fault counts none = absurd (true≢false fault)
more_faults DoorFault old new fault counts none = let rose : Rose old new = counts in omega arith

both : (a b : Bool) → (a && b) ≡ true → (a ≡ true) × (b ≡ true)
both true b is = (refl, is)
both false b is = absurd (true≢false (sym is))

abbrev all_no_more : List Shift → Bool
all_no_more shifts = list_all (λ shift. had_no_more shift.worked) shifts

-- where each worker stopped because no connection was left to take, none has
unused : (old new : HallView) (shifts : List Shift) → All (IsShift old new) shifts → AreUnused (map (λ (s : Shift). s.before) shifts) → all_no_more shifts ≡ true → AreUnused (map (λ (s : Shift). s.after) shifts)
unused old new [] each before is = tt
unused old new (shift ∷ shifts) each before is =
    let here = All-head (IsShift old new) shift shifts each in
    let parts = both (had_no_more shift.worked) (all_no_more shifts) is in (
      record { none_out = here.none_out; unused = same_count shift.worked shift.before.faults shift.after.faults parts.0 here.door ∙ before.0.unused },
      unused old new shifts (All-tail (IsShift old new) shift shifts each) before.1 parts.1,
    )

-- and else one has
failed : (old new : HallView) (shifts : List Shift) → All (IsShift old new) shifts → AreUnused (map (λ (s : Shift). s.before) shifts) → all_no_more shifts ≡ false → HasFailed (map (λ (s : Shift). s.after) shifts)
failed old new [] each before is = absurd (true≢false is)
failed old new (shift ∷ shifts) each before is =
    elim (had_no_more shift.worked) as (λ (b : Bool). had_no_more shift.worked ≡ b → (b && all_no_more shifts) ≡ false → HasFailed (map (λ (s : Shift). s.after) (shift ∷ shifts))) [
      | true ↦ λ here rest. inr (failed old new shifts (All-tail (IsShift old new) shift shifts each) before.1 rest)
      | false ↦ λ here rest. inl (more_faults shift.worked shift.before.faults shift.after.faults here (All-head (IsShift old new) shift shifts each).door before.0.unused)
    ] refl is

pub unused_after : (old new : HallView) (before after : List StationView) (count : ℕ) (whole : Bool) → HaveServed old new before after count whole → AreUnused before → whole ≡ true → AreUnused after
unused_after old new before after count whole served are is =
    subst AreUnused served.after_are (unused old new served.shifts served.each (subst AreUnused (sym served.before_are) are) (sym served.whole_is ∙ is))

pub failed_after : (old new : HallView) (before after : List StationView) (count : ℕ) (whole : Bool) → HaveServed old new before after count whole → AreUnused before → whole ≡ false → HasFailed after
failed_after old new before after count whole served are is =
    subst HasFailed served.after_are (failed old new served.shifts served.each (subst AreUnused (sym served.before_are) are) (sym served.whole_is ∙ is))

-- as many stations come back
pub as_many : (old new : HallView) (before after : List StationView) (count : ℕ) (whole : Bool) → HaveServed old new before after count whole → length after ≡ length before
as_many old new before after count whole served =
    sym (ap length served.after_are) ∙ length-map served.shifts (λ (s : Shift). s.after)
    ∙ sym (length-map served.shifts (λ (s : Shift). s.before)) ∙ ap length served.before_are

-- what comes of workers that stopped, by how it ended
pub worked : (what : ToServe) (hall hall' : HallView) (stations stations' : List StationView) (count : ℕ) (whole : Bool) (ended : ServeEnd) (old new : Front)
    → HaveServed hall hall' stations stations' count whole → GoesOn hall hall' (length stations) → IsHall hall' → (whole ≡ true → count ≡ what.limit) → (whole ≡ false → count < what.limit)
    → AllBack stations' hall'.kept hall'.faults old.place new.place → PrintsCount whole (served_text what.limit) ended old.written new.written
    → WorksAt what hall stations ended old new
worked what hall hall' stations stations' count whole ended old new served goes_on is_hall all fewer back prints = by_end ended prints
  where
    at : (w : Bool) → whole ≡ w → ServedAt what hall stations w old.place new.place
    at w same = record {
      hall-after = hall';
      stations-after = stations';
      count = count;
      served = subst (λ (b : Bool). HaveServed hall hall' stations stations' count b) same served;
      goes_on = goes_on;
      is_hall = is_hall;
      all = λ yes. all (same ∙ yes);
      fewer = λ not. fewer (same ∙ not);
      back = back;
    }

    by_end : (e : ServeEnd) → PrintsCount whole (served_text what.limit) e old.written new.written → WorksAt what hall stations e old new
    by_end end.Served prints = (at true prints.0, prints.1)
    by_end end.OutputFailed prints = (at true prints.0, prints.1)
    by_end end.PlaceFailed prints = (at false prints.0, prints.1)
    by_end end.OutOfMemory prints = absurd prints
    by_end end.Refused prints = absurd prints
    by_end end.KeeperFailed prints = absurd prints
