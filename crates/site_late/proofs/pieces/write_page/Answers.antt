use Rattle.html_out.specs.Segment.{joined}
use Rattle.site_late.proofs.Joining.{body_front}
use Rattle.site_late.proofs.pieces.write_page.Goals as goal

pub returns-clause-front : goal.returns-clause-front
returns-clause-front g c =
    body_front c.write_parts.result (g.O.Sink.written c.args.sink.now) (g.O.Sink.written c.write_whole.new.sink) (g.O.Sink.written c.write_parts.new.sink) c.args.head.now (joined c.args.body.now) c.in_ok-write_whole.ensures.whole c.write_parts.ensures.front
