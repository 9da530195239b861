use Rattle.std.proofs.Common.{◌∙◌, ap}
use Rattle.site_house.proofs.Moving.{moves_on}
use Rattle.site_io.proofs.Turns.{turn_more}
use Rattle.site_io.specs.Doors.{Line, Back, and_back}
use Rattle.site_http.proofs.Working.{one_more}
use Rattle.site_http.proofs.worker.work.Goals as goal

pub connections-preserved : goal.connections-preserved
connections-preserved g c =
    let before = c.connections.invariant in
    let served = c.serve_next-ended in
    let line : Line = record { left = g.D.In.Source.left c.in-Ok.source; written = g.D.Out.Sink.written c.in-Ok.sink; reading = g.D.In.Source.faults c.in-Ok.source; writing = g.D.Out.Sink.faults c.in-Ok.sink } in
    let back : Back = record { line = record { left = g.D.In.Source.left served.new.source; written = g.D.Out.Sink.written served.new.sink; reading = g.D.In.Source.faults served.new.source; writing = g.D.Out.Sink.faults served.new.sink }; end = served.result } in
    record {
      serves = one_more before.serves c.if-not-more.ensures.counted (record {
        line = line;
        back = back;
        next = c.in-Ok.ensures.next;
        later = c.done.ensures.coming ∙ c.in-Ok.ensures.later;
        given_back = c.done.ensures.back ∙ ap (λ backs. and_back backs back) c.in-Ok.ensures.returned;
        reads = served.ensures.reads;
        writes = served.ensures.writes;
        connection = served.ensures.connection;
        follows = record { base = served.ensures.moves.base; pass = served.ensures.moves.number; grows = served.ensures.moves.grows };
      });
      moves = moves_on before.moves served.ensures.moves;
      moments = turn_more before.moments served.ensures.moments;
      words = turn_more before.words served.ensures.words;
      recent = served.ensures.recent;
      none_out = c.done.ensures.none_out;
      refused = c.if-not-more.ensures.refused ∙ before.refused;
      same = c.if-not-more.ensures.same ∙ before.same;
      steady = c.done.ensures.steady ∙ c.in-Ok.ensures.steady ∙ before.steady;
    }
