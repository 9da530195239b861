use Rattle.std.proofs.Common.{◌≡◌, ◌∙◌, ap, subst, sym}
use Rattle.content_state.specs.State.{State}
use Rattle.site_keeper.specs.Keeper.{IfTold}
use Rattle.site_keeper.specs.Steps.{stored_of}
use Rattle.site_hall.specs.Hall.{HallView}
use Rattle.site_hall.specs.Opened.{opened_in}
use Rattle.site_hall.proofs.Keepers.{kept_by, still_whole}
use Rattle.site_hall.proofs.engine.Engine.with_keeper.Goals as goal

pub invariant_of-engine : goal.invariant_of-engine
invariant_of-engine g c =
    let told = subst (λ (b : State). IfTold (g.L.Keeper.kept c.args.keeper) (λ held. held ≡ stored_of b)) (sym (ap (λ (h : HallView). h.base) c.self.view_is)) c.requires.told in
    still_whole c.self.inside.log c.self.inside.pending _ (g.L.Keeper.kept c.args.keeper) _ (g.L.Keeper.faults c.args.keeper) _ (g.L.Keeper.steadfast c.args.keeper) c.self.inside.stock
    c.self.invariant.is_hall (ap (λ (h : HallView). h.log) c.self.view_is ∙ c.requires.new.0) (ap (λ (h : HallView). h.pending) c.self.view_is ∙ c.requires.new.1) told

pub returns-clause-hall : goal.returns-clause-hall
returns-clause-hall g c =
    let told = subst (λ (b : State). IfTold (g.L.Keeper.kept c.args.keeper) (λ held. held ≡ stored_of b)) (sym (ap (λ (h : HallView). h.base) c.self.view_is)) c.requires.told in
    kept_by c.self.inside.log c.self.inside.pending (g.L.Keeper.kept c.args.keeper) (g.L.Keeper.faults c.args.keeper) (g.L.Keeper.steadfast c.args.keeper) c.self.inside.stock
    (ap (λ (h : HallView). h.log) c.self.view_is ∙ c.requires.new.0) (ap (λ (h : HallView). h.pending) c.self.view_is ∙ c.requires.new.1) told
    ∙ ap (λ (h : HallView). opened_in h.stock (stored_of h.base) (g.L.Keeper.kept c.args.keeper) (g.L.Keeper.faults c.args.keeper) (g.L.Keeper.steadfast c.args.keeper)) c.self.view_is

pub returns-clause-is_hall : goal.returns-clause-is_hall
returns-clause-is_hall g c = (invariant_of-engine g c).is_hall
