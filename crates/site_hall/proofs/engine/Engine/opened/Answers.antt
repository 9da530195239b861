use Rattle.std.proofs.Common.{◌∙◌, sym, subst}
use Rattle.content_state.specs.SiteRules.{IsValidState}
use Rattle.site_hall.specs.Hall.{IsHall}
use Rattle.site_hall.proofs.Halls.{opened_hall, opened_view, whole_settled}
use Rattle.site_hall.proofs.engine.Engine.opened.Goals as goal

pub returns-in-Ok-new-clause-opened : goal.returns-in-Ok-new-clause-opened
returns-in-Ok-new-clause-opened g c =
    opened_view c.in-Ok-new.log c.args.stored (g.K.Keeper.kept c.args.keeper) (g.K.Keeper.faults c.args.keeper) (g.K.Keeper.steadfast c.args.keeper) c.args.stock
    (c.in-Ok-new.ensures.base ∙ c.in-Ok.ensures.same) c.in-Ok-new.ensures.edits c.requires.told

pub returns-in-Ok-new-clause-is_hall : goal.returns-in-Ok-new-clause-is_hall
returns-in-Ok-new-clause-is_hall g c =
    let kept = g.K.Keeper.kept c.args.keeper in
    let faults = g.K.Keeper.faults c.args.keeper in
    let valid = subst IsValidState c.in-Ok.ensures.same c.in-Ok.ensures.valid.0 in
    let opened = opened_view c.in-Ok-new.log c.args.stored kept faults (g.K.Keeper.steadfast c.args.keeper) c.args.stock (c.in-Ok-new.ensures.base ∙ c.in-Ok.ensures.same) c.in-Ok-new.ensures.edits c.requires.told in
    subst IsHall (sym opened) (opened_hall c.args.stored kept faults (g.K.Keeper.steadfast c.args.keeper) c.args.stock valid c.requires.told c.requires.entries)

pub invariant_of-result : goal.invariant_of-result
invariant_of-result g c =
    let kept = g.K.Keeper.kept c.args.keeper in
    let faults = g.K.Keeper.faults c.args.keeper in
    let valid = subst IsValidState c.in-Ok.ensures.same c.in-Ok.ensures.valid.0 in
    let opened = opened_view c.in-Ok-new.log c.args.stored kept faults (g.K.Keeper.steadfast c.args.keeper) c.args.stock (c.in-Ok-new.ensures.base ∙ c.in-Ok.ensures.same) c.in-Ok-new.ensures.edits c.requires.told in
    whole_settled c.in-Ok-new.log kept faults (g.K.Keeper.steadfast c.args.keeper) c.args.stock (subst IsHall (sym opened) (opened_hall c.args.stored kept faults (g.K.Keeper.steadfast c.args.keeper) c.args.stock valid c.requires.told c.requires.entries))
