use Rattle.std.proofs.Common.{◌∙◌, None, Some, refl, ap, arith}
use Rattle.atomic_table.specs.Table.{rest}
use Rattle.turn_rule.specs.Steps.{with_hall}
use Rattle.turn_laws.proofs.Turning.{edits_forgotten}
use Rattle.site_table.specs.Views.{noted_in, desk_in, nothing, part_of, pass_at, part_at}
use Rattle.site_table.proofs.Seats.{exchanged, followed_forgetting, has_back}
use Rattle.site_table.proofs.turns.forget_back.Goals as goal

pub load-requires : goal.load-requires
load-requires g c =
    let room = c.requires.room in
    let words = room.1.0 in
    let o = c.requires.out in
    let e = c.exchange.ensures in
    let me = c.args.seat.now.me in (
      e.0 ∙ room.0,
      omega arith,
      edits_forgotten noted_in desk_in _ _ _ (pass_at me) o.2.0 o.2.1 (part_at me) (Some c.args.hall, None) (rest me.1) o.0 (part_of c.args.hall) room.1.1
          (exchanged _ _ _ 0 nothing (Some c.args.hall, None) (rest me.1) o.1 e.3) refl o.2.2 o.2.3,
    )

pub open_gate-requires-clause-back : goal.open_gate-requires-clause-back
open_gate-requires-clause-back g c =
    let o = c.requires.out in
    let me = c.args.seat.now.me in
    has_back _ c.args.hall _ _ (rest me.1) (followed_forgetting _ _ (pass_at me) (part_at me) o.0 c.args.hall (rest me.1) (exchanged _ _ _ 0 nothing (Some c.args.hall, None) (rest me.1) o.1 c.exchange.ensures.3) c.load.ensures.2).0

pub returns-clause-back : goal.returns-clause-back
returns-clause-back g c =
    let o = c.requires.out in
    let me = c.args.seat.now.me in
    c.open_gate.ensures.open ∙ ap (λ m. (with_hall None m.0, rest m.1))
    (followed_forgetting _ _ (pass_at me) (part_at me) o.0 c.args.hall (rest me.1) (exchanged _ _ _ 0 nothing (Some c.args.hall, None) (rest me.1) o.1 c.exchange.ensures.3) c.load.ensures.2).0

pub returns-clause-knows : goal.returns-clause-knows
returns-clause-knows g c =
    let o = c.requires.out in
    let me = c.args.seat.now.me in
    (followed_forgetting _ _ (pass_at me) (part_at me) o.0 c.args.hall (rest me.1) (exchanged _ _ _ 0 nothing (Some c.args.hall, None) (rest me.1) o.1 c.exchange.ensures.3) c.load.ensures.2).1
