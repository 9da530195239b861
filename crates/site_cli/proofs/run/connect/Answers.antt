use Rattle.std.proofs.Common.{◌∙◌, ap, inl}
use Rattle.site_places.specs.Place.{next_list, none_given, entropy_given, PlaceView}
use Rattle.site_hall.specs.Alone.{house_of}
use Rattle.site_cli.proofs.Replaying.{replays}
use Rattle.site_cli.proofs.Causes.{ended_cause}
use Rattle.site_cli.proofs.run.connect.Goals as goal

pub returns-clause-does : goal.returns-clause-does
returns-clause-does g c =
    inl (replays c.serve_connection-ended.result _ _ _
    (g.P.Clock.Clock.moments c.clock-clock.result) (g.P.Clock.Clock.moments c.serve_connection-ended.new.clock)
    (g.P.Clock.Clock.given c.clock-clock.result) (g.P.Clock.Clock.given c.serve_connection-ended.new.clock)
    (g.P.Entropy.Entropy.words c.entropy-entropy.result) (g.P.Entropy.Entropy.words c.serve_connection-ended.new.entropy)
    (g.P.Entropy.Entropy.given c.entropy-entropy.result) (g.P.Entropy.Entropy.given c.serve_connection-ended.new.entropy)
    (g.P.Gate.Gate.reached c.gate-gate.result) (g.P.Gate.Gate.reached c.serve_connection-ended.new.gate)
    (house_of c.in-Ok.house) (house_of c.serve_connection-ended.new.house) c.status_of.result
    (record {
      list = c.clock-clock.ensures.moments;
      clock = c.clock-clock.ensures.begins;
      chances = c.entropy-entropy.ensures.words ∙ ap (λ (v : PlaceView). next_list v.words) c.clock-clock.ensures.later;
      chance = c.entropy-entropy.ensures.begins ∙ ap (λ (v : PlaceView). none_given (next_list v.words)) c.clock-clock.ensures.later;
      gate = c.gate-gate.ensures.begins;
      turn = c.serve_connection-ended.ensures.moments;
      word_turn = c.serve_connection-ended.ensures.words;
      house_is = c.in-Ok.ensures;
      moves = c.serve_connection-ended.ensures.moves;
      own = λ none. (c.handed-handed.ensures.is_alone.all none).handed;
      connection = c.serve_connection-ended.ensures.connection;
      place = c.gate-gate.ensures.steady ∙ c.entropy-entropy.ensures.later ∙ ap entropy_given c.clock-clock.ensures.later;
    })
    c.status_of.ensures)

pub returns-clause-cause : goal.returns-clause-cause
returns-clause-cause g c =
    let place = c.gate-gate.ensures.steady ∙ c.entropy-entropy.ensures.later ∙ ap entropy_given c.clock-clock.ensures.later in
    ended_cause c.serve_connection-ended.result _ _ c.status_of.result c.status_of.ensures c.serve_connection-ended.ensures.reads c.serve_connection-ended.ensures.writes
    (record { own = ap (λ (v : PlaceView). v.faults) place; rows = ap (λ (v : PlaceView). v.rows_faults) place; doors = ap (λ (v : PlaceView). v.door_faults) place })
    (ap (λ (v : PlaceView). v.keeper_faults) place)
