use Rattle.std.proofs.Common.{◌∙◌, ◌∷◌, [], List, ℕ, Option, ap, refl, subst, sym, arith, inl, inr}
use Rattle.site_io.specs.Told.{after, AddsFront}
use Rattle.site_http.specs.declared.answer.Made.TheVariants as made
use Rattle.site_http.proofs.Lately.{makes_late, late_front, late_replied}
use Rattle.site_http.proofs.Made.{unsent_made, replied, half_replied}
use Rattle.site_http.proofs.answer.answer_late.Goals as goal

pub returns-in-Written-clause-replies : goal.returns-in-Written-clause-replies
returns-in-Written-clause-replies g c given words request late asks =
    late_replied given words (g.O.Sink.written c.args.sink.now) (g.O.Sink.written c.late_reply.new.sink) (g.G.Gate.reached c.args.gate.now) (g.G.Gate.reached c.late_reply.new.gate) request c.args.ask.now c.args.now c.args.closing c.requires.moment c.in-Written.ensures.stays late asks c.in-Written.ensures.sends

pub returns-in-WriteFault-clause-replies : goal.returns-in-WriteFault-clause-replies
returns-in-WriteFault-clause-replies g c given words request late asks =
    let b = c.in-WriteFault.ensures.sends in
    inr (late_front given words (g.O.Sink.written c.args.sink.now) (g.O.Sink.written c.late_reply.new.sink) (g.G.Gate.reached c.args.gate.now) (g.G.Gate.reached c.late_reply.new.gate) request c.args.ask.now c.args.now c.args.closing c.requires.moment c.in-WriteFault.ensures.stays late asks b b.until.0 (omega arith))

pub returns-in-OutOfMemory-clause-replies : goal.returns-in-OutOfMemory-clause-replies
returns-in-OutOfMemory-clause-replies g c given words request late asks =
    let b = c.in-OutOfMemory.ensures.sends in
    let some = b.some in
    late_front given words (g.O.Sink.written c.args.sink.now) (g.O.Sink.written c.late_reply.new.sink) (g.G.Gate.reached c.args.gate.now) (g.G.Gate.reached c.late_reply.new.gate) request c.args.ask.now c.args.now c.args.closing c.requires.moment c.in-OutOfMemory.ensures.stays late asks b b.until.0 (omega (arith, some))

pub returns-in-Ok-clause-replies : goal.returns-in-Ok-clause-replies
returns-in-Ok-clause-replies g c given words request late asks =
    let n = c.in-NotBegun.ensures.sends in
    let text = made.Fixed c.memory_text.result in
    replied given (after given (c.args.now ∷ [])) words words (g.O.Sink.written c.args.sink.now) (g.O.Sink.written c.send.new.sink) (g.G.Gate.reached c.args.gate.now) (g.G.Gate.reached c.reach.new.self) request c.args.now c.args.closing text refl
    (makes_late request c.args.ask.now c.args.now c.args.closing text late asks
    (unsent_made words (g.G.Gate.reached c.args.gate.now) (g.G.Gate.reached c.late_reply.new.gate) (g.G.Gate.reached c.reach.new.self) c.args.ask.now c.args.now c.args.closing text c.requires.moment c.in-NotBegun.ensures.moves c.in-NotBegun.ensures.stays n.points c.reach.ensures (sym c.memory_text.ensures)))
    (c.in-Ok.ensures.whole ∙ ap (λ (o : Option (List ℕ)). after o c.memory_text.result.now) n.written)

pub returns-clause-replies : goal.returns-clause-replies
returns-clause-replies g c given words request late asks =
    let n = c.in-NotBegun.ensures.sends in
    let text = made.Fixed c.memory_text.result in
    inl (half_replied given (after given (c.args.now ∷ [])) words words (g.O.Sink.written c.args.sink.now) (g.O.Sink.written c.send.new.sink) (g.G.Gate.reached c.args.gate.now) (g.G.Gate.reached c.reach.new.self) request c.args.now c.args.closing text refl
    (makes_late request c.args.ask.now c.args.now c.args.closing text late asks
    (unsent_made words (g.G.Gate.reached c.args.gate.now) (g.G.Gate.reached c.late_reply.new.gate) (g.G.Gate.reached c.reach.new.self) c.args.ask.now c.args.now c.args.closing text c.requires.moment c.in-NotBegun.ensures.moves c.in-NotBegun.ensures.stays n.points c.reach.ensures (sym c.memory_text.ensures)))
    (subst (λ (o : Option (List ℕ)). AddsFront o (g.O.Sink.written c.send.new.sink) c.memory_text.result.now) n.written c.in-Err.ensures.front))
