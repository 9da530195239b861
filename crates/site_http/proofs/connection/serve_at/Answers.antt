use Rattle.std.proofs.Common.{◌∙◌, List, ℕ, sym, refl, subst, arith}
use Rattle.site_house.proofs.Moving.{moves_same, moves_on}
use Rattle.site_house.specs.History.{newest}
use Rattle.site_house.specs.House.{history_of}
use Rattle.site_http.specs.Kept.{shelves_of}
use Rattle.site_http.specs.Connection.{Around, CountsReads, CountsWrites}
use Rattle.site_io.proofs.Turns.{turn_same, turn_more}
use Rattle.site_http.proofs.Progress.{Progress, begun, spent_at}
use Rattle.site_http.proofs.Ends.{ended_in, goes_in}
use Rattle.site_http.proofs.connection.serve_at.Goals as goal

pub returns-in-Some-clause-moves : goal.returns-in-Some-clause-moves
returns-in-Some-clause-moves g c = moves_on c.requests.invariant.moves c.in-Some.ensures.moves

pub requests-init : goal.requests-init
requests-init g c =
    let house = g.H.House.sees c.args.house.now in
    let old : Around = record { left = g.S.Source.left c.args.source.now; out = record { given = g.C.Clock.given c.args.clock.now; words = g.E.Entropy.given c.args.entropy.now; points = g.G.Gate.reached c.args.gate.now; written = g.O.Sink.written c.args.sink.now; handed = house.handed; keepers = house.keepers; kept = shelves_of house } } in
    record {
      moves = moves_same house;
      progress = subst (λ (b : List ℕ). Progress old old (history_of house) 1000 (newest (history_of house)) 0 (newest (history_of house)) b) (sym c.clear.ensures) (begun old (history_of house) 1000);
      moments = turn_same (g.C.Clock.moments c.args.clock.now) (g.C.Clock.given c.args.clock.now);
      words = turn_same (g.E.Entropy.words c.args.entropy.now) (g.E.Entropy.given c.args.entropy.now);
      recent = c.requires.recent;
      reading = refl;
      writing = refl;
    }

pub returns-in-Some-clause-connection : goal.returns-in-Some-clause-connection
returns-in-Some-clause-connection g c =
    let house = g.H.House.sees c.turn.new.house in
    ended_in (record { left = g.S.Source.left c.turn.new.source; out = record { given = g.C.Clock.given c.turn.new.clock; words = g.E.Entropy.given c.turn.new.entropy; points = g.G.Gate.reached c.turn.new.gate; written = g.O.Sink.written c.turn.new.sink; handed = house.handed; keepers = house.keepers; kept = shelves_of house } }) {house = g.H.House.sees c.requests.house} {house' = house} c.turn.new.inbox c.in-Some.ended (omega arith) c.in-Some.ensures.moves c.requests.invariant.progress c.in-Some.ensures.turned

pub returns-in-Some-clause-reads : goal.returns-in-Some-clause-reads
returns-in-Some-clause-reads g c =
    subst (λ (n : ℕ). CountsReads c.in-Some.ended n (g.S.Source.faults c.turn.new.source)) c.requests.invariant.reading c.in-Some.ensures.reads

pub returns-in-Some-clause-writes : goal.returns-in-Some-clause-writes
returns-in-Some-clause-writes g c =
    subst (λ (n : ℕ). CountsWrites c.in-Some.ended n (g.O.Sink.faults c.turn.new.sink)) c.requests.invariant.writing c.in-Some.ensures.writes

pub requests-preserved : goal.requests-preserved
requests-preserved g c = record {
  moves = moves_on c.requests.invariant.moves c.in_default.ensures.moves;
  progress = goes_in {house = g.H.House.sees c.requests.house} {house' = g.H.House.sees c.turn.new.house} c.turn.new.inbox (omega arith) c.in_default.ensures.moves c.requests.invariant.progress c.in_default.ensures.turned;
  moments = turn_more c.requests.invariant.moments c.in_default.ensures.moments;
  words = turn_more c.requests.invariant.words c.in_default.ensures.words;
  recent = c.in_default.ensures.recent;
  reading = c.in_default.ensures.reads ∙ c.requests.invariant.reading;
  writing = c.in_default.ensures.writes ∙ c.requests.invariant.writing;
}

pub returns-clause-connection : goal.returns-clause-connection
returns-clause-connection g c = spent_at (omega arith) c.requests.invariant.progress
