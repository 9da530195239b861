use Rattle.std.proofs.Common.{◌≡◌, ◌+◌, ◌≤◌, List, ℕ, Some, refl, sym, subst, arith}
use Rattle.std.proofs.lemmas.Result.{err_from_is_err_and}
use Rattle.site_house.proofs.Moving.{moves_same, moves_on}
use Rattle.site_house.specs.History.{newest}
use Rattle.site_house.specs.House.{history_of}
use Rattle.site_http.specs.Kept.{shelves_of}
use Rattle.site_http.specs.Connection.{Around}
use Rattle.site_io.proofs.Turns.{turn_same, turn_more}
use Rattle.site_drill.specs.Replies.{AllAnswered}
use Rattle.site_drill.specs.Stops.{NotAnswered}
use Rattle.site_drill.specs.declared.served.Stop.TheVariants as stop
use Rattle.site_drill.proofs.Stopping.{closed_only, last_stops, one_more, stops_in, turn_stops}
use Rattle.site_drill.proofs.Underway.{Underway, begun, ends_in, goes_in, pages_few}
use Rattle.site_drill.proofs.served.answer_all.Goals as goal

pub requests-init : goal.requests-init
requests-init g c =
    let house = g.H.House.sees c.args.house.now in
    let old : Around = (record { left = Some c.args.source.now; out = record { given = g.C.Clock.given c.args.clock.now; words = g.E.Entropy.given c.args.entropy.now; points = g.G.Gate.reached c.args.gate.now; written = Some c.args.sink.now.written; handed = (g.H.House.sees c.args.house.now).handed; keepers = (g.H.House.sees c.args.house.now).keepers; kept = shelves_of (g.H.House.sees c.args.house.now) } }) in
    record {
      moves = moves_same house;
      underway = subst (λ (b : List ℕ). Underway old old (history_of house) (newest (history_of house)) 0 0 (newest (history_of house)) b) (sym c.requires.empty) (begun old (history_of house));
      moments = turn_same (g.C.Clock.moments c.args.clock.now) (g.C.Clock.given c.args.clock.now);
      few = omega arith;
      recent = c.requires.recent;
    }

pub requests-preserved : goal.requests-preserved
requests-preserved g c =
    let house = g.H.House.sees c.answer_next.new.house in
    let low = newest (history_of (g.H.House.sees c.args.house.now)) in
    let next = goes_in {old = record { left = Some c.args.source.now; out = record { given = g.C.Clock.given c.args.clock.now; words = g.E.Entropy.given c.args.entropy.now; points = g.G.Gate.reached c.args.gate.now; written = Some c.args.sink.now.written; handed = (g.H.House.sees c.args.house.now).handed; keepers = (g.H.House.sees c.args.house.now).keepers; kept = shelves_of (g.H.House.sees c.args.house.now) } }} {new = record { left = Some c.answer_next.new.source; out = record { given = g.C.Clock.given c.answer_next.new.clock; words = g.E.Entropy.given c.answer_next.new.entropy; points = g.G.Gate.reached c.answer_next.new.gate; written = Some c.answer_next.new.sink.written; handed = (g.H.House.sees c.answer_next.new.house).handed; keepers = (g.H.House.sees c.answer_next.new.house).keepers; kept = shelves_of (g.H.House.sees c.answer_next.new.house) } }} {house = g.H.House.sees c.requests.house} {house' = house} c.answer_next.new.inbox (omega arith) c.answer_next.ensures.moves c.requests.invariant.underway c.in_ok-page.ensures.took in
    record {
      moves = moves_on c.requests.invariant.moves c.answer_next.ensures.moves;
      underway = subst (λ (n : ℕ). Underway (record { left = Some c.args.source.now; out = record { given = g.C.Clock.given c.args.clock.now; words = g.E.Entropy.given c.args.entropy.now; points = g.G.Gate.reached c.args.gate.now; written = Some c.args.sink.now.written; handed = (g.H.House.sees c.args.house.now).handed; keepers = (g.H.House.sees c.args.house.now).keepers; kept = shelves_of (g.H.House.sees c.args.house.now) } }) (record { left = Some c.answer_next.new.source; out = record { given = g.C.Clock.given c.answer_next.new.clock; words = g.E.Entropy.given c.answer_next.new.entropy; points = g.G.Gate.reached c.answer_next.new.gate; written = Some c.answer_next.new.sink.written; handed = (g.H.House.sees c.answer_next.new.house).handed; keepers = (g.H.House.sees c.answer_next.new.house).keepers; kept = shelves_of (g.H.House.sees c.answer_next.new.house) } }) (history_of house) low (c.requests.index + 1) n (newest (history_of house)) c.answer_next.new.inbox) (sym c.pages_with-pages.ensures) next;
      moments = turn_more c.requests.invariant.moments c.answer_next.ensures.moments;
      few = subst (λ (n : ℕ). n ≤ c.requests.index + 1) (sym c.pages_with-pages.ensures) (pages_few c.requests.pages c.requests.index c.in_ok-page.page c.requests.invariant.few);
      recent = c.answer_next.ensures.recent;
    }

pub returns-in_err-page-clause-stopped : goal.returns-in_err-page-clause-stopped
returns-in_err-page-clause-stopped g c =
    let same = err_from_is_err_and c.from_residual.result c.from_residual.ensures.1 in
    let told : NotAnswered c.in_err-page.field-0.0 c.args.source.now = stops_in c.in_err-page.field-0.0 c.args.source.now c.requests.source refl refl c.requests.invariant.underway c.in_err-page.ensures.stopped in
    rw (same.1, same.2) told

pub returns-in_default-clause-stopped : goal.returns-in_default-clause-stopped
returns-in_default-clause-stopped g c =
    last_stops stop.Unanswered c.args.source.now c.requests.source refl refl c.requests.auto.index-end c.requests-test.false c.requests.invariant.underway
    (one_more c.requests.source c.turn.new.source (omega arith) (omega arith) refl refl c.in_default.ensures.turned)

pub returns-in-Some-stop_of-clause-stopped : goal.returns-in-Some-stop_of-clause-stopped
returns-in-Some-stop_of-clause-stopped g c =
    let turn = turn_stops
    (record { left = Some c.requests.source; out = record { given = g.C.Clock.given c.requests.clock; words = g.E.Entropy.given c.requests.entropy; points = g.G.Gate.reached c.requests.gate; written = Some c.requests.sink.written; handed = (g.H.House.sees c.requests.house).handed; keepers = (g.H.House.sees c.requests.house).keepers; kept = shelves_of (g.H.House.sees c.requests.house) } })
    (record { left = Some c.turn.new.source; out = record { given = g.C.Clock.given c.turn.new.clock; words = g.E.Entropy.given c.turn.new.entropy; points = g.G.Gate.reached c.turn.new.gate; written = Some c.turn.new.sink.written; handed = (g.H.House.sees c.turn.new.house).handed; keepers = (g.H.House.sees c.turn.new.house).keepers; kept = shelves_of (g.H.House.sees c.turn.new.house) } })
    (history_of (g.H.House.sees c.turn.new.house)) 900 (newest (history_of (g.H.House.sees c.requests.house))) c.requests.inbox c.turn.new.inbox
    c.in-Some.ended c.in-Some-stop_of.stop c.requests.source c.turn.new.source c.in-Some-stop_of.ensures (omega arith) refl refl c.in-Some.ensures.reads c.in-Some.ensures.turned in
    last_stops c.in-Some-stop_of.stop c.args.source.now c.requests.source refl refl c.requests.auto.index-end c.requests-test.false c.requests.invariant.underway turn

pub returns-in-None-clause-answered : goal.returns-in-None-clause-answered
returns-in-None-clause-answered g c =
    let house = g.H.House.sees c.turn.new.house in
    let low = newest (history_of (g.H.House.sees c.args.house.now)) in
    let few = c.requests.auto.index-end in
    let late = c.requests-test.false in
    let all : c.requests.index ≡ 900 = omega (arith, few, late) in
    let closed = closed_only c.in-Some.ended (sym c.in-None.ensures) in
    let ends = rw closed at c.in-Some.ensures.turned in
    subst (λ (n : ℕ). AllAnswered n c.requests.pages (record { left = Some c.args.source.now; out = record { given = g.C.Clock.given c.args.clock.now; words = g.E.Entropy.given c.args.entropy.now; points = g.G.Gate.reached c.args.gate.now; written = Some c.args.sink.now.written; handed = (g.H.House.sees c.args.house.now).handed; keepers = (g.H.House.sees c.args.house.now).keepers; kept = shelves_of (g.H.House.sees c.args.house.now) } }) (record { left = Some c.turn.new.source; out = record { given = g.C.Clock.given c.turn.new.clock; words = g.E.Entropy.given c.turn.new.entropy; points = g.G.Gate.reached c.turn.new.gate; written = Some c.turn.new.sink.written; handed = (g.H.House.sees c.turn.new.house).handed; keepers = (g.H.House.sees c.turn.new.house).keepers; kept = shelves_of (g.H.House.sees c.turn.new.house) } }) (history_of house) low) all
    (ends_in {house = g.H.House.sees c.requests.house} {house' = house} (omega (arith, few)) c.in-Some.ensures.moves c.requests.invariant.underway ends)
