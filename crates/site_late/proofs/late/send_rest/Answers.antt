use Rattle.std.proofs.Common.{◌≡◌, ◌∙◌, ◌++◌, [], List, ℕ, ap, rules, subst}
use Rattle.std.specs.Arc.{arc_value}
use Rattle.content_state.specs.State.{State}
use Rattle.content_state.specs.declared.element.Hole.{Hole}
use Rattle.html_out.specs.Segment.{joined}
use Rattle.site_io.specs.Told.{after, AddsFront}
use Rattle.site_late.specs.Parts.{WritesAll, WritesSome}
use Rattle.site_late.specs.Sending.{reader_of}
use Rattle.site_late.specs.declared.parts.Stop.{Stop}
use Rattle.site_late.specs.declared.parts.Stop.TheVariants as stop
use Rattle.site_late.proofs.Sends.{rest_none, rest_all, rest_front, rest_some}
use Rattle.site_late.proofs.late.send_rest.Goals as goal

pub returns-then-is_empty-clause-rest : goal.returns-then-is_empty-clause-rest
returns-then-is_empty-clause-rest g c =
    let none : c.args.ready.now.late.holes.items ≡ [] = search rules in
    rest_none (g.H.House.sees c.args.house.now) c.args.ready.now (arc_value c.args.ready.now.newest) c.args.ask.now c.args.now (g.G.Gate.reached c.args.gate.now) (g.O.Sink.written c.args.sink.now) none c.requires.first

pub returns-in-Err-WriteFault-clause-rest : goal.returns-in-Err-WriteFault-clause-rest
returns-in-Err-WriteFault-clause-rest g c =
    let before = g.H.House.sees c.args.house.now in
    let moved = g.H.House.sees c.send_parts.new.house in
    let points = g.G.Gate.reached c.args.gate.now in
    let points' = g.G.Gate.reached c.send_parts.new.gate in
    let written = g.O.Sink.written c.args.sink.now in
    let later = g.O.Sink.written c.send_parts.new.sink in
    let some : c.args.ready.now.late.holes.items ≡ [] → ⊥ = λ none. search rules in
    rest_some stop.WriteFault before moved c.args.ready.now (arc_value c.args.ready.now.newest) c.args.ask.now c.args.now points points' written later some c.requires.first
    (subst (λ (hs : List Hole). WritesSome stop.WriteFault (reader_of (arc_value c.args.ready.now.newest) c.args.ask.now c.args.now) hs before moved points points' written later) c.as_slice-holes.ensures.value
    (subst (λ (s : State). WritesSome stop.WriteFault (reader_of s c.args.ask.now c.args.now) c.as_slice-holes.result.now before moved points points' written later) c.deref-state.ensures
    (subst (λ (why : Stop). WritesSome why (reader_of c.deref-state.result.now c.args.ask.now c.args.now) c.as_slice-holes.result.now before moved points points' written later) c.in-Err-WriteFault.field-0-is c.in-Err-WriteFault.ensures.some)))

pub returns-in-Err-OutOfMemory-clause-rest : goal.returns-in-Err-OutOfMemory-clause-rest
returns-in-Err-OutOfMemory-clause-rest g c =
    let before = g.H.House.sees c.args.house.now in
    let moved = g.H.House.sees c.send_parts.new.house in
    let points = g.G.Gate.reached c.args.gate.now in
    let points' = g.G.Gate.reached c.send_parts.new.gate in
    let written = g.O.Sink.written c.args.sink.now in
    let later = g.O.Sink.written c.send_parts.new.sink in
    let some : c.args.ready.now.late.holes.items ≡ [] → ⊥ = λ none. search rules in
    rest_some stop.OutOfMemory before moved c.args.ready.now (arc_value c.args.ready.now.newest) c.args.ask.now c.args.now points points' written later some c.requires.first
    (subst (λ (hs : List Hole). WritesSome stop.OutOfMemory (reader_of (arc_value c.args.ready.now.newest) c.args.ask.now c.args.now) hs before moved points points' written later) c.as_slice-holes.ensures.value
    (subst (λ (s : State). WritesSome stop.OutOfMemory (reader_of s c.args.ask.now c.args.now) c.as_slice-holes.result.now before moved points points' written later) c.deref-state.ensures
    (subst (λ (why : Stop). WritesSome why (reader_of c.deref-state.result.now c.args.ask.now c.args.now) c.as_slice-holes.result.now before moved points points' written later) c.in-Err-OutOfMemory.field-0-is c.in-Err-OutOfMemory.ensures.some)))

pub returns-in-Ok-hand_on-clause-rest : goal.returns-in-Ok-hand_on-clause-rest
unfolding joined
returns-in-Ok-hand_on-clause-rest g c =
    let before = g.H.House.sees c.args.house.now in
    let moved = g.H.House.sees c.send_parts.new.house in
    let points = g.G.Gate.reached c.args.gate.now in
    let points' = g.G.Gate.reached c.send_parts.new.gate in
    let written = g.O.Sink.written c.args.sink.now in
    let now = g.O.Sink.written c.send_parts.new.sink in
    let some : c.args.ready.now.late.holes.items ≡ [] → ⊥ = λ none. search rules in
    rest_all before moved c.args.ready.now (arc_value c.args.ready.now.newest) c.args.ask.now c.args.now points points' written now (g.O.Sink.written c.hand_on.new.sink) some c.requires.first
    (subst (λ (hs : List Hole). WritesAll (reader_of (arc_value c.args.ready.now.newest) c.args.ask.now c.args.now) hs before moved points points' written now) c.as_slice-holes.ensures.value
    (subst (λ (s : State). WritesAll (reader_of s c.args.ask.now c.args.now) c.as_slice-holes.result.now before moved points points' written now) c.deref-state.ensures c.in-Ok.ensures.whole))
    (c.in-Ok-hand_on.ensures.whole ∙ ap (λ (l : List ℕ). after now (l ++ [])) c.body_end.ensures)

pub returns-in-Err-clause-rest : goal.returns-in-Err-clause-rest
unfolding joined
returns-in-Err-clause-rest g c =
    let before = g.H.House.sees c.args.house.now in
    let moved = g.H.House.sees c.send_parts.new.house in
    let points = g.G.Gate.reached c.args.gate.now in
    let points' = g.G.Gate.reached c.send_parts.new.gate in
    let written = g.O.Sink.written c.args.sink.now in
    let now = g.O.Sink.written c.send_parts.new.sink in
    let later = g.O.Sink.written c.hand_on.new.sink in
    let some : c.args.ready.now.late.holes.items ≡ [] → ⊥ = λ none. search rules in
    rest_front before moved c.args.ready.now (arc_value c.args.ready.now.newest) c.args.ask.now c.args.now points points' written now later some c.requires.first
    (subst (λ (hs : List Hole). WritesAll (reader_of (arc_value c.args.ready.now.newest) c.args.ask.now c.args.now) hs before moved points points' written now) c.as_slice-holes.ensures.value
    (subst (λ (s : State). WritesAll (reader_of s c.args.ask.now c.args.now) c.as_slice-holes.result.now before moved points points' written now) c.deref-state.ensures c.in-Ok.ensures.whole))
    (subst (λ (l : List ℕ). AddsFront now later (l ++ [])) c.body_end.ensures c.in-Err.ensures.front)
