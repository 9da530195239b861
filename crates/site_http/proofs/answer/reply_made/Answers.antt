use Rattle.std.proofs.Common.{sym}
use Rattle.site_house.proofs.Moving.{moves_same}
use Rattle.site_http.specs.Called.{called, ask_of}
use Rattle.site_http.proofs.Made.{unasked_made}
use Rattle.site_http.proofs.answer.reply_made.Goals as goal

pub returns-in-Err-clause-makes : goal.returns-in-Err-clause-makes
returns-in-Err-clause-makes g c =
    unasked_made (g.E.Entropy.given c.args.entropy.now) (g.G.Gate.reached c.args.gate.now) (g.G.Gate.reached c.reach.new.self) (called c.args.request) (ask_of c.args.request) c.args.now c.args.closing _ c.requires.moment (moves_same (g.H.House.sees c.args.house.now)) c.reach.ensures (sym c.memory_text.ensures)

pub returns-in-Ok-clause-recent : goal.returns-in-Ok-clause-recent
returns-in-Ok-clause-recent g c =
    c.learn.ensures (g.H.House.sees c.reply_to-made.new.house) c.args.request c.requires.plain
    (record { call = c.in-Ok.ensures.call; ask = c.in-Ok.ensures.ask }) c.reply_to-made.ensures.recent
