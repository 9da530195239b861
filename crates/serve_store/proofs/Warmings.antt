-- Halls over which pages were rendered before the workers start.
use Rattle.std.proofs.Common.{◌≡◌, ◌∙◌, ℕ, List, [], ◌∷◌, ◌++◌, drop, take, Bool, Option, Some, None, ap, inl, inr, refl, sym, subst}
use Rattle.std.specs.Prelude.{Result, Ok, Err, IfOk, IfErr, OnOk}
use Rattle.content_state.specs.State.{State}
use Rattle.content_state.specs.Replay.{replay, Begins}
use Rattle.content_state.specs.declared.commit.Commit.{Commit}
use Rattle.indexed_rows.specs.Rows.{AreValidRows}
use Rattle.site_keeper.specs.Keeper.{IfTold, Kept}
use Rattle.site_keeper.specs.Steps.{stored_of}
use Rattle.site_keeper.specs.Keeping.{and_batches, batches_of, with_pending}
use Rattle.site_house.specs.House.{HouseView, IsSublist, Moves, Stays}
use Rattle.site_hall.specs.Alone.{AloneView, house_of, IsAlone}
use Rattle.site_hall.specs.Hall.{HallView, IsHall, with_stock}
use Rattle.site_hall.specs.Opened.{opened_in}
use Rattle.site_hall.specs.Stock.{Stock, bins_in}
use Rattle.site_io.specs.Series.{AreFirstOf, GivesInTurn, last_moment}
use Rattle.site_io.specs.Told.{after}
use Rattle.site_places.specs.Place.{PlaceView, next_list, none_given}
use Rattle.site_targets.specs.Targets.{targets_of}
use Rattle.kept_pages.specs.Held.{Shelves, IsTold, NothingLost}
use Rattle.warm_pages.specs.declared.warming.TheConstants.{MOST_PAGES}
use Rattle.warm_pages.specs.Warm.{AreHeld, AreRendered, OnSnapshot, Warms}
use Rattle.serve_store.specs.Warming.{first_targets, shelves_in, AreWarm, IsFirstMoment, IsNew, OnlyPages}

-- what follows of an answer
pub on_ok_is : {A E X : Type 0} {r : Result A E} {a : A} → r ≡ Ok a → OnOk r X → X
on_ok_is {A} {E} {X} is on = subst (λ (r : Result A E). OnOk r X) is on

-- an answer that is passed on
pub if_ok_same : {A E : Type 0} (P : A → Type 0) (r s : Result A E) → OnOk r (r ≡ s) → IfOk s P → IfOk r P
if_ok_same {A} {E} P (Ok a) s same is = subst (λ (t : Result A E). IfOk t P) (sym same) is
if_ok_same P (Err e) s same is = tt

pub if_kept_warm : {A E X Y Z : Type 0} (r s : Result A E) → OnOk r (r ≡ s) → OnOk r X → IfOk s (λ _. Y) → (X → Y → Z) → OnOk r Z
if_kept_warm {A} {E} {X} {Y} (Ok a) s same none is then_z = then_z none (subst (λ (t : Result A E). IfOk t (λ _. Y)) (sym same) is)
if_kept_warm (Err e) s same none is then_z = tt

pub if_err_of : {A E X : Type 0} → (r : Result A E) → X → IfErr r (λ _. X)
if_err_of (Ok a) x = tt
if_err_of (Err e) x = x

-- ---- an engine over which nothing was edited

pub unchanged : (hall : HallView) → IsNew hall → OnlyPages hall hall
unchanged hall is = record { same = refl; is_hall = is.is_hall }

pub pages_pending : (hall new : HallView) → IsNew hall → OnlyPages hall new → new.pending ≡ None
pages_pending hall new is pages = ap (λ (h : HallView). h.pending) pages.same ∙ is.pending

none_listed : (log : List Commit) (pending : Option Commit) → log ≡ [] → pending ≡ None → with_pending log pending ≡ []
none_listed log pending none waiting = ap (with_pending log) waiting ∙ none

-- the keeper has kept nothing since it was loaded
same_kept : (hall : HallView) → IsNew hall → hall.kept ≡ hall.opened
same_kept hall is = elim is.is_hall.keeps [
  | inl kept ↦ kept ∙ ap (λ (l : List Commit). and_batches hall.opened (batches_of hall.base l)) is.log
  | inr kept ↦ kept ∙ ap (λ (l : List Commit). and_batches hall.opened (batches_of hall.base l)) (none_listed hall.log hall.pending is.log is.pending)
]

-- so it holds what was loaded
pub still_told : (hall : HallView) → IsNew hall → IfTold hall.kept (λ held. held ≡ stored_of hall.base)
still_told hall is = subst (λ (k : Option Kept). IfTold k (λ held. held ≡ stored_of hall.base)) (sym (same_kept hall is)) is.is_hall.loaded

pub newest_rows : (hall : HallView) (state : State) → IsNew hall → state ≡ replay hall.base hall.log → AreValidRows state.rows
unfolding replay
newest_rows hall state is same =
    subst (λ (s : State). AreValidRows s.rows) (sym (same ∙ ap (replay hall.base) is.log)) (is.is_hall.valid.states 0).rows

pub newest_base : (hall : HallView) (state : State) → IsNew hall → state ≡ replay hall.base hall.log → state ≡ hall.base
unfolding replay
newest_base hall state is same = same ∙ ap (replay hall.base) is.log

-- ---- the engine once the keeper is back

-- nothing was handed in, so nothing was published, and nothing is pending
unlisted : (log : List Commit) (pending : Option Commit) → with_pending log pending ≡ [] → (log ≡ []) × (pending ≡ None)
unlisted log None is = (is, refl)
unlisted [] (Some commit) is = absurd (never is)
  where
    never : commit ∷ [] ≡ [] → ⊥
    never is = cc
unlisted (first ∷ others) (Some commit) is = absurd (never is)
  where
    never : first ∷ (others ++ commit ∷ []) ≡ [] → ⊥
    never is = cc

pub none_made : (old new : AloneView) → old.opened ≡ 0 → old.handed ≡ [] → Moves (house_of old) (house_of new) → Stays (house_of old) (house_of new) → IsAlone new
    → (new.hall.log ≡ []) × (new.hall.pending ≡ None)
none_made old new first none moves stays is =
    unlisted new.hall.log new.hall.pending
    (subst (λ (n : ℕ). drop n (with_pending new.hall.log new.hall.pending) ≡ []) (moves.opened ∙ first)
    (subst (IsSublist (drop new.opened (with_pending new.hall.log new.hall.pending))) (stays.handed ∙ none) is.own))

-- a new hall is one that was just opened
opened_so : (hall : HallView) (stock : Stock) → IsNew hall → opened_in stock (stored_of hall.base) hall.kept hall.faults hall.steadfast ≡ with_stock hall stock
opened_so hall stock is = λ i. record {
  base = hall.base;
  log = sym is.log i;
  pending = sym is.pending i;
  opened = same_kept hall is i;
  kept = hall.kept;
  faults = hall.faults;
  steadfast = hall.steadfast;
  stock = stock;
}

pub only_pages : (hall new : HallView) (base : State) (stock : Stock) (kept : Option Kept) (faults : ℕ) (steadfast : Bool) → IsNew hall
    → new ≡ opened_in stock (stored_of base) kept faults steadfast → base ≡ hall.base → kept ≡ hall.kept → faults ≡ hall.faults → steadfast ≡ hall.steadfast → IsHall new
    → OnlyPages hall new
only_pages hall new base stock kept faults steadfast is new_is base_is kept_is faults_is steadfast_is is_hall = record {
  same = new_is ∙ (λ i. opened_in stock (stored_of (base_is i)) (kept_is i) (faults_is i) (steadfast_is i)) ∙ opened_so hall stock is
      ∙ ap (with_stock hall) (sym (ap (λ (h : HallView). h.stock) new_is));
  is_hall = is_hall;
}

-- ---- what was rendered

inner : {A : Type 0} {x y : A} → Some x ≡ Some y → x ≡ y
inner same = cc

-- nothing was published meanwhile
seen_none : (seen log : List Commit) → Begins seen log → log ≡ [] → seen ≡ []
seen_none [] log begins none = refl
seen_none (first ∷ others) log begins none = absurd (never (sym none ∙ begins.1))
  where
    never : [] ≡ first ∷ (others ++ begins.0) → ⊥
    never is = cc

shelves_are : (new : HallView) (shelves : Shelves) → shelves.bins ≡ bins_in new.stock → shelves.unkept ≡ 0 → shelves ≡ shelves_in new
shelves_are new shelves is none = λ i. record { bins = is i; unkept = none i }

warm_by : (moment : ℕ) (hall new : HallView) (house : HouseView) (targets : List (List ℕ)) → house.bins ≡ Some (bins_in new.stock) → house.unkept ≡ 0 → targets ≡ first_targets hall
    → Warms hall.base moment targets (shelves_in hall) house → AreWarm moment hall new
warm_by moment hall new house targets bins unkept is w =
    let same = shelves_are new w.after (inner (sym w.is.bins ∙ bins)) (sym w.is.unkept ∙ unkept) in
    let rendered : AreRendered hall.base moment (shelves_in hall) (first_targets hall) w.entries w.after =
    subst (λ (ts : List (List ℕ)). AreRendered hall.base moment (shelves_in hall) ts w.entries w.after) is w.rendered in
    let held : NothingLost (shelves_in hall) w.after → AreHeld hall.base moment w.after (first_targets hall) w.entries =
    λ none. subst (λ (ts : List (List ℕ)). AreHeld hall.base moment w.after ts w.entries) is (w.held none) in
    record {
      entries = w.entries;
      rendered = subst (AreRendered hall.base moment (shelves_in hall) (first_targets hall) w.entries) same rendered;
      held = subst (λ (s : Shelves). NothingLost (shelves_in hall) s → AreHeld hall.base moment s (first_targets hall) w.entries) same held;
    }

pub are_warm : (moment : ℕ) (hall new : HallView) (before later : AloneView) (targets : List (List ℕ)) → before.hall.base ≡ hall.base → before.hall.stock ≡ hall.stock → before.unkept ≡ 0 → later.unkept ≡ 0
    → later.hall.log ≡ [] → new.stock ≡ later.hall.stock → targets ≡ targets_of hall.base.rows
    → OnSnapshot (house_of before) (house_of later) (λ (s : State). (shelves : Shelves) → IsTold (house_of before) shelves → Warms s moment (take MOST_PAGES targets) shelves (house_of later))
    → AreWarm moment hall new
unfolding replay
are_warm moment hall new before later targets base stock unkept still log kept is on =
    let none = seen_none on.seen later.hall.log on.still log in
    let state : replay before.hall.base on.seen ≡ hall.base = ap (replay before.hall.base) none ∙ base in
    let told : IsTold (house_of before) (shelves_in hall) = record { bins = ap (λ (s : Stock). Some (bins_in s)) stock; unkept = unkept } in
    warm_by moment hall new (house_of later) (take MOST_PAGES targets) (ap (λ (s : Stock). Some (bins_in s)) (sym kept)) still (ap (take MOST_PAGES) is)
    (subst (λ (s : State). Warms s moment (take MOST_PAGES targets) (shelves_in hall) (house_of later)) state (on.holds (shelves_in hall) told))

-- ---- the moment

none_first : (greatest : ℕ) (values : Option (List ℕ)) → AreFirstOf greatest values (none_given values)
none_first greatest None = tt
none_first greatest (Some values) = refl

-- the first moment of a clock that gave none yet
pub first_moment : (place : PlaceView) (moment : ℕ) (listed listed-after given given-after : Option (List ℕ)) → listed ≡ next_list place.moments → given ≡ none_given (next_list place.moments)
    → given-after ≡ after given (moment ∷ []) → GivesInTurn last_moment listed listed-after given given-after → IsFirstMoment place moment
first_moment place moment listed listed-after given given-after is begins told turn =
    let list = next_list place.moments in
    let first = subst (λ (o : Option (List ℕ)). AreFirstOf last_moment listed o) (sym begins) (subst (λ (l : Option (List ℕ)). AreFirstOf last_moment l (none_given list)) (sym is) (none_first last_moment list)) in
    subst (AreFirstOf last_moment list) (told ∙ ap (λ (g : Option (List ℕ)). after g (moment ∷ [])) begins)
    (subst (λ (l : Option (List ℕ)). AreFirstOf last_moment l given-after) (turn.same ∙ is) (turn.in_turn first))
