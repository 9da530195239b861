use Rattle.std.proofs.Common.{sym}
use Rattle.site_turn.proofs.Outcomes.{settles_so, settles_none}
use Rattle.site_turn.proofs.edit.settle_pending.Goals as goal

pub returns-then-not-pending-clause-settles : goal.returns-then-not-pending-clause-settles
returns-then-not-pending-clause-settles g c = settles_none c.args.seat.now.me c.args.desk.now c.requires.at (sym c.if-not-pending.ensures)

pub returns-in-Ok-clause-settles : goal.returns-in-Ok-clause-settles
returns-in-Ok-clause-settles g c =
    settles_so c.args.seat.now.me c.settle.new.seat.me c.args.desk.now c.ask.new.self c.settle.new.desk c.in-Ok.kept c.requires.at (sym c.if-not-pending.ensures) c.in-Ok.ensures.steady c.in-Ok.ensures.told c.settle.ensures.settled
