use Rattle.std.proofs.Common.{◌≡◌, ◌∙◌, Bool, None, refl, sym, subst}
use Rattle.std.specs.Prelude.{IfOk, OnOk}
use Rattle.std.proofs.lemmas.Result.{IfOk-weaker}
use Rattle.site_hall.specs.Hall.{HallView, IsHall}
use Rattle.serve_store.specs.Warming.{place_then, written_then, IsReady, Warmed}
use Rattle.serve_store.proofs.Warmings.{if_err_of, pages_pending}
use Rattle.serve_store.proofs.warming.made_warm.Goals as goal

pub returns-then-asked-clause-ready : goal.returns-then-asked-clause-ready
returns-then-asked-clause-ready g c =
    subst (λ (b : Bool). IfOk c.warm_first.result (IsReady b (g.P.Place.sees c.args.place.now) c.args.hall)) (sym c.if-asked.true) c.warm_first.ensures.warmed

pub returns-then-asked-clause-none_pending : goal.returns-then-asked-clause-none_pending
returns-then-asked-clause-none_pending g c =
    IfOk-weaker c.warm_first.result (Warmed (g.P.Place.sees c.args.place.now) c.args.hall) (λ (h : HallView). h.pending ≡ None)
    (λ h warmed. pages_pending c.args.hall h c.requires warmed.pages) c.warm_first.ensures.warmed

pub returns-then-asked-clause-is_hall : goal.returns-then-asked-clause-is_hall
returns-then-asked-clause-is_hall g c =
    IfOk-weaker c.warm_first.result (Warmed (g.P.Place.sees c.args.place.now) c.args.hall) (λ (h : HallView). IsHall h) (λ h warmed. warmed.pages.is_hall) c.warm_first.ensures.warmed

pub returns-then-asked-clause-written : goal.returns-then-asked-clause-written
returns-then-asked-clause-written g c =
    subst (λ (b : Bool). OnOk c.warm_first.result (g.P.Out.Sink.written c.warm_first.new.output ≡ written_then b c.args.hall (g.P.Out.Sink.written c.args.output.now))) (sym c.if-asked.true) c.warm_first.ensures.written

pub returns-then-asked-clause-asked : goal.returns-then-asked-clause-asked
returns-then-asked-clause-asked g c = if_err_of c.warm_first.result c.if-asked.true

pub returns-then-asked-clause-place : goal.returns-then-asked-clause-place
returns-then-asked-clause-place g c =
    subst (λ (b : Bool). g.P.Place.sees c.warm_first.new.place ≡ place_then b (g.P.Place.sees c.args.place.now)) (sym c.if-asked.true) c.warm_first.ensures.place

pub returns-else-asked-clause-ready : goal.returns-else-asked-clause-ready
returns-else-asked-clause-ready g c = subst (λ (b : Bool). IsReady b (g.P.Place.sees c.args.place.now) c.args.hall c.args.hall) (sym c.if-asked.false) refl

pub returns-else-asked-clause-none_pending : goal.returns-else-asked-clause-none_pending
returns-else-asked-clause-none_pending g c = c.requires.pending

pub returns-else-asked-clause-is_hall : goal.returns-else-asked-clause-is_hall
returns-else-asked-clause-is_hall g c = c.requires.is_hall

pub returns-else-asked-clause-written : goal.returns-else-asked-clause-written
returns-else-asked-clause-written g c =
    subst (λ (b : Bool). g.P.Out.Sink.written c.args.output.now ≡ written_then b c.args.hall (g.P.Out.Sink.written c.args.output.now)) (sym c.if-asked.false) refl

pub returns-else-asked-clause-place : goal.returns-else-asked-clause-place
returns-else-asked-clause-place g c =
    subst (λ (b : Bool). g.P.Place.sees c.args.place.now ≡ place_then b (g.P.Place.sees c.args.place.now)) (sym c.if-asked.false) refl
