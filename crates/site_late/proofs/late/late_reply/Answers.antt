use Rattle.std.proofs.Common.{◌∙◌, ◌++◌, List, ℕ, ap, subst}
use Rattle.std.specs.Arc.{arc_value}
use Rattle.html_out.specs.Segment.{joined}
use Rattle.late_pages.proofs.Exist.{parts_exist}
use Rattle.render_array.specs.Shown.{visit_of}
use Rattle.site_house.proofs.Moving.{moves_on}
use Rattle.site_io.specs.Told.{after, AddsFront}
use Rattle.site_late.proofs.Replied.{sends_by, sends_front, sends_rest}
use Rattle.site_late.proofs.late.late_reply.Goals as goal

pub returns-in-Ok-hand_on-clause-moves : goal.returns-in-Ok-hand_on-clause-moves
returns-in-Ok-hand_on-clause-moves g c = moves_on c.in-Ok.ensures.moves c.send_rest.ensures.moves

pub returns-in-Ok-hand_on-clause-sends : goal.returns-in-Ok-hand_on-clause-sends
returns-in-Ok-hand_on-clause-sends g c =
    let r = c.in-Ok.ready in
    let written = g.O.Sink.written c.args.sink.now in
    sends_by c.send_rest.result c.args.ask.now c.args.now c.args.closing
    (sends_rest c.send_rest.result r (arc_value r.newest) c.args.ask.now c.args.now c.args.closing (g.G.Gate.reached c.args.gate.now) (g.G.Gate.reached c.make_ready.new.gate) (g.G.Gate.reached c.reach.new.self) (g.G.Gate.reached c.send_rest.new.gate) written (g.O.Sink.written c.hand_on.new.sink) (g.O.Sink.written c.send_rest.new.sink)
    c.in-Ok.ensures.ready c.in-Ok.ensures.moves c.send_rest.ensures.moves c.in-Ok.ensures.told c.reach.ensures
    (c.in-Ok-hand_on.ensures.whole ∙ ap (λ (l : List ℕ). after written (l ++ joined c.as_slice-2.result.now)) c.as_slice.ensures.value ∙ ap (λ (l : List ℕ). after written (r.head.items ++ l)) c.as_slice-2.ensures)
    c.send_rest.ensures.rest)

pub returns-clause-sends : goal.returns-clause-sends
returns-clause-sends g c =
    let r = c.in-Ok.ready in
    let written = g.O.Sink.written c.args.sink.now in
    let later = g.O.Sink.written c.hand_on.new.sink in
    sends_front r (arc_value r.newest) c.args.ask.now c.args.now c.args.closing (g.G.Gate.reached c.args.gate.now) (g.G.Gate.reached c.make_ready.new.gate) (g.G.Gate.reached c.reach.new.self) written later
    c.in-Ok.ensures.ready c.in-Ok.ensures.moves (parts_exist (visit_of (arc_value r.newest).rows c.args.ask.now c.args.now) r.late.holes.items) c.in-Ok.ensures.told c.reach.ensures
    (subst (λ (l : List ℕ). AddsFront written later (r.head.items ++ l)) c.as_slice-2.ensures
    (subst (λ (l : List ℕ). AddsFront written later (l ++ joined c.as_slice-2.result.now)) c.as_slice.ensures.value c.in-Err.ensures.front))
