use Rattle.std.proofs.Common.{sym}
use Rattle.site_http.specs.declared.answer.Made.TheVariants as made
use Rattle.site_http.proofs.Made.{read_made, unread_made}
use Rattle.site_http.proofs.answer.reading_reply.Goals as goal

pub returns-in-Ok-clause-makes : goal.returns-in-Ok-clause-makes
returns-in-Ok-clause-makes g c words =
    read_made words (g.G.Gate.reached c.args.gate.now) (g.G.Gate.reached c.read.new.gate) (g.G.Gate.reached c.reach.new.self) c.args.reading c.args.ask.now c.args.now c.args.closing (made.Given c.in-Ok.said.given) c.in-Ok.said.built c.requires.moment c.in-Ok.ensures.moves c.in-Ok.ensures.stays
    c.in-Ok.ensures.says c.in-Ok.ensures.told c.reach.ensures

pub returns-in-Err-clause-makes : goal.returns-in-Err-clause-makes
returns-in-Err-clause-makes g c words =
    unread_made words (g.G.Gate.reached c.args.gate.now) (g.G.Gate.reached c.read.new.gate) (g.G.Gate.reached c.reach-in-Err.new.self) c.args.reading c.args.ask.now c.args.now c.args.closing _ c.requires.moment c.in-Err.ensures.moves c.in-Err.ensures.stays c.in-Err.ensures.on_the_way c.reach-in-Err.ensures (sym c.memory_text.ensures)
