use Rattle.std.proofs.Common.{◌∙◌, ap, sym, subst}
use Rattle.site_hall.specs.Sides.{HallSide, Stands, engine_of}
use Rattle.site_hall.proofs.Wholes.{engine_view, engine_whole}
use Rattle.site_hall.proofs.engine.Engine.of_sides.Goals as goal

pub invariant_of-result : goal.invariant_of-result
invariant_of-result g c =
    let parts = c.into_parts-log.result in
    let keeper = c.into_keeper.ensures in
    let stands = subst (λ (h : HallSide). Stands c.requires.0 h c.args.desk) (sym c.into_parts-log.ensures.parts) c.requires.1 in
    engine_whole c.requires.0 parts.0 parts.1 parts.2 (g.K.Keeper.kept c.into_keeper.result) (g.K.Keeper.faults c.into_keeper.result) (g.K.Keeper.steadfast c.into_keeper.result) c.args.desk
    stands keeper.kept keeper.faults keeper.steadfast c.into_parts-log.ensures.whole

pub returns-clause-engine : goal.returns-clause-engine
returns-clause-engine g c told stands =
    let parts = c.into_parts-log.result in
    let keeper = c.into_keeper.ensures in
    engine_view told parts.0 parts.1 parts.2 (g.K.Keeper.kept c.into_keeper.result) (g.K.Keeper.faults c.into_keeper.result) (g.K.Keeper.steadfast c.into_keeper.result) c.args.desk
    (subst (λ (h : HallSide). Stands told h c.args.desk) (sym c.into_parts-log.ensures.parts) stands) keeper.kept keeper.faults keeper.steadfast
    ∙ ap (λ (h : HallSide). engine_of told h c.args.desk) c.into_parts-log.ensures.parts

pub returns-clause-is_hall : goal.returns-clause-is_hall
returns-clause-is_hall g c = (invariant_of-result g c).is_hall
