use Rattle.std.proofs.Common.{◌∙◌, subst}
use Rattle.site_hall.specs.Sides.{HallSide, DeskSide, Stands}
use Rattle.site_turn.proofs.Opening.{engine_back}
use Rattle.site_turn.proofs.site.homes_of.Goals as goal

pub returns-in-Err-new-clause-back : goal.returns-in-Err-new-clause-back
returns-in-Err-new-clause-back g c =
    let engine = c.args.engine in
    let sides = c.into_sides-hall.ensures in
    engine_back engine c.of_sides.result c.into_hall.result c.in-Err-new.desk (c.into_hall.ensures ∙ c.in-Ok.ensures.same ∙ sides.hall) (c.in-Err-new.ensures.back ∙ sides.desk)
    (subst (λ (t : HallSide × DeskSide). Stands engine.opened t.0 t.1) (λ i. (sides.hall i, sides.desk i)) sides.stands) c.of_sides.ensures.engine
