use Rattle.std.proofs.Common.{inl}
use Rattle.site_http.proofs.Knowing.{makes_of}
use Rattle.site_http.proofs.Made.{replied, half_replied}
use Rattle.site_http.proofs.answer.answer_known.Goals as goal

pub returns-in-Ok-clause-replies : goal.returns-in-Ok-clause-replies
returns-in-Ok-clause-replies g c request asks =
    replied (g.C.Clock.given c.args.clock.now) (g.C.Clock.given c.now-now.new.self) (g.E.Entropy.given c.args.entropy.now) (g.E.Entropy.given c.reply_to-made.new.entropy) (g.O.Sink.written c.args.sink.now) (g.O.Sink.written c.send.new.sink) (g.G.Gate.reached c.args.gate.now) (g.G.Gate.reached c.reply_to-made.new.gate) request c.now-now.result c.args.closing c.reply_to-made.result c.now-now.ensures.told (makes_of request c.args.asked.now c.now-now.result c.args.closing c.reply_to-made.result asks c.reply_to-made.ensures.makes) c.in-Ok.ensures.whole

pub returns-clause-replies : goal.returns-clause-replies
returns-clause-replies g c request asks =
    inl (half_replied (g.C.Clock.given c.args.clock.now) (g.C.Clock.given c.now-now.new.self) (g.E.Entropy.given c.args.entropy.now) (g.E.Entropy.given c.reply_to-made.new.entropy) (g.O.Sink.written c.args.sink.now) (g.O.Sink.written c.send.new.sink) (g.G.Gate.reached c.args.gate.now) (g.G.Gate.reached c.reply_to-made.new.gate) request c.now-now.result c.args.closing c.reply_to-made.result c.now-now.ensures.told (makes_of request c.args.asked.now c.now-now.result c.args.closing c.reply_to-made.result asks c.reply_to-made.ensures.makes) c.in-Err.ensures.front)
