use Rattle.std.proofs.Common.{◌≡◌, ◌∙◌, ◌≤◌, ℕ, List, Bool, true, Option, length, ap, inl, inr, refl, sym, subst, arith}
use Rattle.site_hall.specs.Hall.{HallView}
use Rattle.site_io.specs.Told.{after, AddsFront}
use Rattle.site_keeper.specs.Keeper.{Kept}
use Rattle.site_places.specs.Place.{PlaceView}
use Rattle.serve_store.specs.Stations.{AllBack}
use Rattle.serve_store.proofs.Writes.{on_ok, on_err}
use Rattle.serve_store.specs.Job.{to_serve, Front, OutputRises, WorksAt}
use Rattle.serve_store.specs.Texts.{listening_text}
use Rattle.serve_store.specs.Warming.{place_then, written_then, StopsBy}
use Rattle.serve_store.proofs.Places.{counts_by, keeper_since, place_since, stops_keeper, stops_place}
use Rattle.serve_store.proofs.job.serve_stations.Goals as goal

-- ---- that the doors are open isn't printed

pub returns-then-is_err-clause-does : goal.returns-then-is_err-clause-does
returns-then-is_err-clause-does g c =
    let text = c.deref.ensures.value ∙ c.requires.listening in
    let front = on_err c.announce.result (sym c.is_err.ensures.value ∙ c.if-is_err.true) c.announce.ensures.front in
    inl (record {
      ended_is = refl;
      front = subst (λ (t : List ℕ). AddsFront (g.P.Out.Sink.written c.args.output.now) (g.P.Out.Sink.written c.announce.new.output) t) text front;
      back = subst (λ (t : Option Kept × ℕ). AllBack c.args.ready.stations.items t.0 t.1 (g.P.Place.sees c.args.place.now) (g.P.Place.sees c.all_back.new.place)) (λ i. (c.into_keeper.ensures.kept i, c.into_keeper.ensures.faults i)) c.all_back.ensures.back;
    })

pub returns-then-is_err-clause-output : goal.returns-then-is_err-clause-output
returns-then-is_err-clause-output g c = on_err c.announce.result (sym c.is_err.ensures.value ∙ c.if-is_err.true) c.announce.ensures.cause

-- ---- the workers start

pub work_stations-requires-clause-out : goal.work_stations-requires-clause-out
work_stations-requires-clause-out g c κs within = let given = (counts_by c.args.serving.now.warm (g.P.Place.sees c.args.place.now) (g.P.Place.sees c.made_warm.new.place) c.made_warm.ensures.place).out in let out = c.requires.out in omega arith

pub returns-in-Ok-clause-does : goal.returns-in-Ok-clause-does
returns-in-Ok-clause-does g c =
    let warm = c.args.serving.now.warm in
    let hall = c.args.hall in
    let listening : g.P.Out.Sink.written c.announce.new.output ≡ after (g.P.Out.Sink.written c.args.output.now) (listening_text (to_serve c.args.serving.now).address) =
    on_ok c.announce.result (sym c.is_err.ensures.value ∙ c.if-is_err.false) c.announce.ensures.whole ∙ ap (after (g.P.Out.Sink.written c.args.output.now)) (c.deref.ensures.value ∙ c.requires.listening) in
    let written = c.in-Ok.ensures.written ∙ ap (written_then warm hall) listening in
    let steady = c.in-Ok.ensures.steady ∙ on_ok c.announce.result (sym c.is_err.ensures.value ∙ c.if-is_err.false) c.announce.ensures.steady in
    inr (inr (record {
      hall-then = c.in-Ok.hall;
      is_ready = c.in-Ok.ensures.ready;
      does = subst (λ (f : Front). WorksAt (to_serve c.args.serving.now) c.in-Ok.hall c.args.ready.stations.items c.work_stations.result f (record { written = g.P.Out.Sink.written c.work_stations.new.output; writing = g.P.Out.Sink.faults c.work_stations.new.output; place = g.P.Place.sees c.work_stations.new.place }))
          (λ i. record { written = written i; writing = steady i; place = c.made_warm.ensures.place i }) c.work_stations.ensures.does;
    }))

pub returns-in-Ok-clause-output : goal.returns-in-Ok-clause-output
returns-in-Ok-clause-output g c =
    let steady = c.in-Ok.ensures.steady ∙ on_ok c.announce.result (sym c.is_err.ensures.value ∙ c.if-is_err.false) c.announce.ensures.steady in
    subst (λ (n : ℕ). OutputRises c.work_stations.result n (g.P.Out.Sink.faults c.work_stations.new.output)) steady c.work_stations.ensures.output

pub returns-in-Ok-clause-place : goal.returns-in-Ok-clause-place
returns-in-Ok-clause-place g c = place_since _ _ _ _ (counts_by c.args.serving.now.warm (g.P.Place.sees c.args.place.now) (g.P.Place.sees c.made_warm.new.place) c.made_warm.ensures.place).keeps c.work_stations.ensures.place

pub returns-in-Ok-clause-keeper : goal.returns-in-Ok-clause-keeper
returns-in-Ok-clause-keeper g c = keeper_since _ _ _ _ (counts_by c.args.serving.now.warm (g.P.Place.sees c.args.place.now) (g.P.Place.sees c.made_warm.new.place) c.made_warm.ensures.place).keepers c.work_stations.ensures.keeper

-- ---- it ends before

pub all_back-requires-in-Err-after_bounds : goal.all_back-requires-in-Err-after_bounds
all_back-requires-in-Err-after_bounds g c κs within = let given = (counts_by c.args.serving.now.warm (g.P.Place.sees c.args.place.now) (g.P.Place.sees c.made_warm.new.place) c.made_warm.ensures.place).out in let out = c.requires.out in omega arith

pub returns-clause-does : goal.returns-clause-does
returns-clause-does g c =
    let hall = c.args.hall in
    let none = c.in-Err.field-0 in
    let listening : g.P.Out.Sink.written c.announce.new.output ≡ after (g.P.Out.Sink.written c.args.output.now) (listening_text (to_serve c.args.serving.now).address) =
    on_ok c.announce.result (sym c.is_err.ensures.value ∙ c.if-is_err.false) c.announce.ensures.whole ∙ ap (after (g.P.Out.Sink.written c.args.output.now)) (c.deref.ensures.value ∙ c.requires.listening) in
    let same = c.in-Err.ensures.pages.same in
    let kept = c.into_keeper-in-Err.ensures.kept ∙ ap (λ (h : HallView). h.kept) same in
    let faults = c.into_keeper-in-Err.ensures.faults ∙ ap (λ (h : HallView). h.faults) same in
    let place = c.made_warm.ensures.place ∙ ap (λ (b : Bool). place_then b (g.P.Place.sees c.args.place.now)) c.in-Err.ensures.asked in
    inr (inl (record {
      asked = c.in-Err.ensures.asked;
      stops = subst (λ (w : Option (List ℕ)). StopsBy none.end hall w (g.P.Out.Sink.written c.made_warm.new.output)) listening c.in-Err.ensures.stops;
      back = subst (λ (t : Option Kept × ℕ × PlaceView). AllBack c.args.ready.stations.items t.0 t.1 t.2 (g.P.Place.sees c.all_back-in-Err.new.place)) (λ i. (kept i, faults i, place i)) c.all_back-in-Err.ensures.back;
    }))

pub returns-clause-output : goal.returns-clause-output
returns-clause-output g c =
    subst (λ (n : ℕ). OutputRises c.in-Err.field-0.end n (g.P.Out.Sink.faults c.made_warm.new.output))
    (on_ok c.announce.result (sym c.is_err.ensures.value ∙ c.if-is_err.false) c.announce.ensures.steady) c.in-Err.ensures.cause
