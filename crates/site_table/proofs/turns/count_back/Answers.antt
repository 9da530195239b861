use Rattle.std.proofs.Common.{◌∙◌, None, Some, refl, sym, ap, subst, arith}
use Rattle.atomic_table.specs.Table.{rest}
use Rattle.turn_rule.specs.Steps.{bearing, with_hall, with_desk, after_look, KnowsHall}
use Rattle.turn_laws.proofs.Turning.{looks_counted}
use Rattle.site_table.specs.Views.{noted_in, desk_in, nothing, part_of, pass_at, out_at}
use Rattle.site_table.proofs.Seats.{exchanged, counted, has_back}
use Rattle.site_table.proofs.turns.count_back.Goals as goal

pub load-requires : goal.load-requires
load-requires g c =
    let room = c.requires.room in
    let words = room.1.0 in
    let o = c.requires.out in
    let e = c.exchange.ensures in
    let me = c.args.seat.now.me in (
      e.0 ∙ room.0,
      omega arith,
      looks_counted noted_in desk_in g.T.Count.counts _ _ _ (pass_at me) me.0.desk (Some c.args.hall, None) (rest me.1) o.0 (part_of c.args.hall) room.1.1
          (exchanged _ _ _ 0 nothing (Some c.args.hall, None) (rest me.1) o.1 e.3) refl o.2,
    )

pub open_gate-requires-clause-back : goal.open_gate-requires-clause-back
open_gate-requires-clause-back g c =
    let o = c.requires.out in
    let me = c.args.seat.now.me in
    has_back _ c.args.hall me.0.desk _ (rest me.1) (counted g.T.Count.counts _ _ (pass_at me) me.0.desk o.0 c.args.hall (rest me.1) (exchanged _ _ _ 0 nothing (Some c.args.hall, None) (rest me.1) o.1 c.exchange.ensures.3) c.load.ensures.2).0

pub returns-clause-back : goal.returns-clause-back
returns-clause-back g c =
    let o = c.requires.out in
    let me = c.args.seat.now.me in
    c.open_gate.ensures.open ∙ ap (λ m. (with_hall None m.0, rest m.1))
    (counted g.T.Count.counts _ _ (pass_at me) me.0.desk o.0 c.args.hall (rest me.1) (exchanged _ _ _ 0 nothing (Some c.args.hall, None) (rest me.1) o.1 c.exchange.ensures.3) c.load.ensures.2).0
    ∙ ap (λ h. (with_desk me.0.desk (bearing (after_look g.T.Count.counts h (part_of c.args.hall) (pass_at me))), rest me.1)) (sym (ap out_at o.1))

pub returns-clause-knows : goal.returns-clause-knows
returns-clause-knows g c =
    let o = c.requires.out in
    let me = c.args.seat.now.me in
    subst (λ h. KnowsHall (part_of c.args.hall) (after_look g.T.Count.counts h (part_of c.args.hall) (pass_at me))) (sym (ap out_at o.1))
    (counted g.T.Count.counts _ _ (pass_at me) me.0.desk o.0 c.args.hall (rest me.1) (exchanged _ _ _ 0 nothing (Some c.args.hall, None) (rest me.1) o.1 c.exchange.ensures.3) c.load.ensures.2).1
