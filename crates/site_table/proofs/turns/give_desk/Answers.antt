use Rattle.std.proofs.Common.{◌∙◌, None, Some, [], ◌∷◌, refl, sym, ap, arith}
use Rattle.atomic_table.specs.Table.{rest}
use Rattle.turn_rule.specs.Steps.{with_desk, with_faults}
use Rattle.turn_laws.proofs.Turning.{faults_told}
use Rattle.site_table.specs.Views.{noted_in, desk_in, nothing, desk_note, pass_at, part_at}
use Rattle.site_table.proofs.Seats.{exchanged, told, desk_back}
use Rattle.site_table.proofs.turns.give_desk.Goals as goal

pub exchange-requires : goal.exchange-requires
exchange-requires g c =
    let at = c.requires.at in (
      c.requires.room.0,
      (nothing, ap (λ m. m.1) at.me_is ∙ ap (λ m. (1, nothing) ∷ rest m.1) (sym at.me_is)),
    )

pub load-requires : goal.load-requires
load-requires g c =
    let room = c.requires.room in
    let words = room.1.0 in
    let at = c.requires.at in
    let e = c.exchange.ensures in
    let me = c.args.seat.now.me in (
      e.0 ∙ room.0,
      omega arith,
      faults_told noted_in desk_in _ _ _ (pass_at me) (part_at me) (None, Some c.args.desk) (desk_note c.args.desk) room.1.1
          (exchanged _ _ _ 1 nothing (None, Some c.args.desk) [] at.me_is e.3) refl at.rise at.calm,
    )

pub open_door-requires-clause-back : goal.open_door-requires-clause-back
open_door-requires-clause-back g c =
    let at = c.requires.at in
    let me = c.args.seat.now.me in
    desk_back _ c.args.desk (with_faults c.args.desk.faults (part_at me)) _ [] (told _ _ (pass_at me) (part_at me) c.args.desk (exchanged _ _ _ 1 nothing (None, Some c.args.desk) [] at.me_is c.exchange.ensures.3) c.load.ensures.2).0 at.stands

pub returns-clause-back : goal.returns-clause-back
returns-clause-back g c =
    let at = c.requires.at in
    let me = c.args.seat.now.me in
    c.open_door.ensures.open ∙ ap (λ m. (with_desk None m.0, rest m.1))
    (told _ _ (pass_at me) (part_at me) c.args.desk (exchanged _ _ _ 1 nothing (None, Some c.args.desk) [] at.me_is c.exchange.ensures.3) c.load.ensures.2).0

pub returns-clause-knows : goal.returns-clause-knows
returns-clause-knows g c =
    let at = c.requires.at in
    let me = c.args.seat.now.me in
    (told _ _ (pass_at me) (part_at me) c.args.desk (exchanged _ _ _ 1 nothing (None, Some c.args.desk) [] at.me_is c.exchange.ensures.3) c.load.ensures.2).1
