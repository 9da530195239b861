use Rattle.std.proofs.Common.{◌≡◌, Option, Some, true, sym, subst}
use Rattle.std.proofs.lemmas.Result.{on_ok_weaker}
use Rattle.site_keeper.specs.Batch.{Batch}
use Rattle.site_keeper.specs.Keeper.{Kept, and_batch}
use Rattle.site_hall.specs.Sides.{TellsKept, MayKeep}
use Rattle.site_hall.proofs.Sides.{last_tells}
use Rattle.site_hall.proofs.desk.Desk.keep.Goals as goal

pub apply-requires : goal.apply-requires
apply-requires g c = record { right = subst MayKeep (sym c.self.view_is) c.requires.right c.in-Some.batch c.in-Some.is }

pub returns-clause-tells : goal.returns-clause-tells
returns-clause-tells g c =
    let old = g.K.Keeper.kept c.self.inside.keeper in
    let new = g.K.Keeper.kept c.apply.new.self in
    on_ok_weaker c.apply.result
    (λ (ok : new ≡ and_batch old c.in-Some.batch).
    subst (λ (o : Option Batch). TellsKept new o true) (sym c.in-Some.is)
    (subst (λ (k : Option Kept). TellsKept k (Some c.in-Some.batch) true) (sym ok) (last_tells old c.in-Some.batch)))
    c.apply.ensures.ok
