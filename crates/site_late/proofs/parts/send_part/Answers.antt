use Rattle.std.proofs.Common.{◌∙◌, ap}
use Rattle.render_array.specs.Shown.{visit_of}
use Rattle.site_io.specs.Told.{after}
use Rattle.late_pages.specs.Late.{part_text}
use Rattle.site_late.proofs.Templates.{one_exists, same_front}
use Rattle.site_late.specs.Sending.{reader_of}
use Rattle.site_late.proofs.Joining.{none_is_front}
use Rattle.site_late.proofs.Making.{begun_one, begun_short}
use Rattle.site_late.proofs.parts.send_part.Goals as goal

pub returns-in_default-clause-front : goal.returns-in_default-clause-front
returns-in_default-clause-front g c =
    let p = one_exists (visit_of c.args.state.now.rows c.args.ask.now c.args.now) c.args.hole.now in
    (p.0, p.1, none_is_front (g.O.Sink.written c.args.sink.now) (part_text c.args.number p.0))

pub returns-in_default-clause-begun : goal.returns-in_default-clause-begun
returns-in_default-clause-begun g c =
    begun_short (reader_of c.args.state.now c.args.ask.now c.args.now) c.args.hole.now (g.H.House.sees c.args.house.now) (g.H.House.sees c.made_part.new.house) c.made_part.ensures.moves

pub returns-in-Ok-hand_on-clause-whole : goal.returns-in-Ok-hand_on-clause-whole
returns-in-Ok-hand_on-clause-whole g c =
    let p = c.in-Ok.ensures.part in
    (p.0, p.1, c.in-Ok-hand_on.ensures.whole ∙ ap (after (g.O.Sink.written c.args.sink.now)) (c.as_slice.ensures ∙ p.2))

pub returns-clause-begun : goal.returns-clause-begun
returns-clause-begun g c =
    begun_one (reader_of c.args.state.now c.args.ask.now c.args.now) c.args.hole.now (g.H.House.sees c.args.house.now) (g.H.House.sees c.made_part.new.house) c.in-Ok.ensures.made

pub returns-clause-front : goal.returns-clause-front
returns-clause-front g c =
    let p = c.in-Ok.ensures.part in
    (p.0, p.1, same_front (g.O.Sink.written c.args.sink.now) (g.O.Sink.written c.hand_on.new.sink) (c.as_slice.ensures ∙ p.2) c.in-Err.ensures.front)
