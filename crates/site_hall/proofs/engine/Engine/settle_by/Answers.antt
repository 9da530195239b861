use Rattle.std.proofs.Common.{◌≡◌, ◌∙◌, ◌+◌, ℕ, ap, sym, subst, refl}
use Rattle.site_keeper.specs.Keeper.{IfTold}
use Rattle.site_hall.specs.Hall.{HallView}
use Rattle.site_hall.proofs.Halls.{settled_published, settled_forgotten, settled_whole}
use Rattle.site_hall.proofs.engine.Engine.settle_by.Goals as goal

pub publish-requires-clause-room : goal.publish-requires-clause-room
publish-requires-clause-room g c =
    (c.self.invariant.has_place c.in-Some.made (sym c.take.ensures.value ∙ c.in-Some.is)).room

pub publish-requires-clause-short : goal.publish-requires-clause-short
publish-requires-clause-short g c =
    (c.self.invariant.has_place c.in-Some.made (sym c.take.ensures.value ∙ c.in-Some.is)).short

-- it is forgotten

pub invariant_of-self-then-head-number : goal.invariant_of-self-then-head-number
invariant_of-self-then-head-number g c =
    let told = subst (λ (hall : HallView). IfTold hall.kept (λ held. c.args.head ≡ held.head)) (sym c.self.view_is) c.requires in
    let other = λ (e : c.args.head ≡ c.number.result + 1). c.if-head-number.true e in
    settled_whole c.args.head c.in-Some.made c.self.invariant (sym c.take.ensures.value ∙ c.in-Some.is) c.take.ensures.after told
    (settled_forgotten c.self.inside.log (g.K.Keeper.kept c.self.inside.keeper) (g.K.Keeper.faults c.self.inside.keeper) c.args.head (g.K.Keeper.steadfast c.self.inside.keeper) c.self.inside.stock c.in-Some.made
    (λ e. other (e ∙ ap (λ (n : ℕ). n + 1) (sym c.number.ensures.number))))

pub returns-then-head-number-clause-is_hall : goal.returns-then-head-number-clause-is_hall
returns-then-head-number-clause-is_hall g c = (invariant_of-self-then-head-number g c).is_hall

-- it is published

pub invariant_of-self-2 : goal.invariant_of-self-2
invariant_of-self-2 g c =
    let told = subst (λ (hall : HallView). IfTold hall.kept (λ held. c.args.head ≡ held.head)) (sym c.self.view_is) c.requires in
    settled_whole c.args.head c.in-Some.made c.self.invariant (sym c.take.ensures.value ∙ c.in-Some.is) c.take.ensures.after told
    (settled_published c.self.inside.log c.publish.new.self c.in-Some.made.commit (g.K.Keeper.kept c.self.inside.keeper) (g.K.Keeper.faults c.self.inside.keeper) c.args.head (g.K.Keeper.steadfast c.self.inside.keeper) c.self.inside.stock c.in-Some.made refl
    c.publish.ensures.base c.publish.ensures.edits (c.if-head-number.false ∙ ap (λ (n : ℕ). n + 1) c.number.ensures.number))

pub returns-clause-is_hall : goal.returns-clause-is_hall
returns-clause-is_hall g c = (invariant_of-self-2 g c).is_hall
