use Rattle.std.proofs.Common.{[], subst}
use Rattle.std.specs.List.{All}
use Rattle.std.proofs.lemmas.List.Elements.{All-head}
use Rattle.turn_rule.specs.Steps.{bearing, KnowsHall}
use Rattle.site_table.specs.Views.{part_of, pass_of}
use Rattle.site_turn.proofs.Seats.{seat_is}
use Rattle.site_turn.proofs.pass.out.Goals as goal

pub returns-clause-knows : goal.returns-clause-knows
returns-clause-knows g c =
    let hall = part_of c.take_hall-hall.result in
    let pass = pass_of c.args.badge.views in
    let e = c.into_seat-seat.ensures in
    let me = seat_is _ c.into_seat-seat.result.me (bearing pass) c.requires.bears e.2 e.3 in
    All-head (KnowsHall hall) pass [] (subst (λ m. All (KnowsHall hall) m.0.passes) me c.take_hall-hall.ensures.knows)
