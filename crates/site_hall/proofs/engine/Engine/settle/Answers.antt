use Rattle.std.proofs.Common.{◌∙◌, ap, sym, subst}
use Rattle.std.specs.Prelude.{not}
use Rattle.std.proofs.lemmas.Result.{err_from_is_err_and}
use Rattle.site_hall.specs.Hall.{HallView}
use Rattle.site_hall.specs.Ready.{LeavesPending}
use Rattle.site_hall.specs.Within.{view_of}
use Rattle.site_hall.proofs.Halls.{settled_already, head_leaves, none_by}
use Rattle.site_hall.proofs.engine.Engine.settle.Goals as goal

pub returns-then-is_none-clause-settles : goal.returns-then-is_none-clause-settles
returns-then-is_none-clause-settles g c =
    let none = none_by (c.is_none.ensures ∙ ap not c.if-is_none.true) in
    settled_already c.args.self.now
    (ap (λ (hall : HallView). hall.pending) (sym c.self.view_is) ∙ ap (λ o. (view_of c.self.inside.log o (g.K.Keeper.kept c.self.inside.keeper) 0 (g.K.Keeper.steadfast c.self.inside.keeper) c.self.inside.stock).pending) none)

pub returns-in_err-head-clause-leaves : goal.returns-in_err-head-clause-leaves
returns-in_err-head-clause-leaves g c =
    let p = err_from_is_err_and c.from_residual.result c.from_residual.ensures.1 in
    let new = view_of c.self.inside.log c.self.inside.pending (g.K.Keeper.kept c.head.new.self) (g.K.Keeper.faults c.head.new.self) (g.K.Keeper.steadfast c.head.new.self) c.self.inside.stock in
    let leaves = head_leaves c.in_err-head.field-0.0 c.self.inside.log c.self.inside.pending (g.K.Keeper.kept c.self.inside.keeper) (g.K.Keeper.kept c.head.new.self) (g.K.Keeper.faults c.self.inside.keeper) (g.K.Keeper.faults c.head.new.self) (g.K.Keeper.steadfast c.self.inside.keeper) (g.K.Keeper.steadfast c.head.new.self) c.self.inside.stock (c.is_none.ensures ∙ ap not c.if-is_none.false) c.in_err-head.ensures.stays c.in_err-head.ensures.cause c.head.ensures.steadfast.tells in
    rw (p.1, p.2) (subst (λ (old : HallView). LeavesPending c.in_err-head.field-0.0 old new) c.self.view_is leaves)
