use Rattle.std.proofs.Common.{◌∙◌, sym, ap, arith}
use Rattle.turn_rule.specs.Steps.{noted_out}
use Rattle.site_table.proofs.Seats.{knows_it}
use Rattle.turn_laws.proofs.Taking.{halls_out}
use Rattle.site_table.specs.Views.{noted_in, desk_in}
use Rattle.site_table.proofs.turns.try_hall.Goals as goal

pub compare_exchange-requires : goal.compare_exchange-requires
compare_exchange-requires g c =
    let room = c.requires.room in
    let words = room.1.0 in (room.0, omega arith, halls_out noted_in desk_in _ _ _ _ room.1.1 c.requires.gate c.requires.note)

pub returns-clause-knows : goal.returns-clause-knows
returns-clause-knows g c =
    let f = c.if-compare_exchange-ne0.false in
    let t = c.compare_exchange.ensures.2.0 (grind arith) in
    knows_it c.exchange-hall.result t.1 c.args.seat.now.me.0.passes (ap (noted_out noted_in desk_in) (sym c.exchange-hall.ensures.2 ∙ ap (λ m. m.1) t.3) ∙ t.2) t.5
