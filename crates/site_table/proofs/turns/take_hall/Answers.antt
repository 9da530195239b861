use Rattle.std.proofs.Common.{subst}
use Rattle.std.specs.List.{All}
use Rattle.std.specs.Prelude.{IfSome}
use Rattle.turn_rule.specs.Steps.{KnowsHall}
use Rattle.site_table.specs.Views.{part_of}
use Rattle.site_table.proofs.turns.take_hall.Goals as goal

pub returns-in-Some-try_hall-clause-knows : goal.returns-in-Some-try_hall-clause-knows
returns-in-Some-try_hall-clause-knows g c =
    let mine = subst (λ r. IfSome r (λ hall. All (KnowsHall (part_of hall)) c.tries.seat.me.0.passes)) c.in-Some-try_hall.is c.try_hall.ensures.knows in
    subst (λ m. All (KnowsHall (part_of c.in-Some-try_hall.hall)) m.0.passes) c.tries.invariant.1 mine
