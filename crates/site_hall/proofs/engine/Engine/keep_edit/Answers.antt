use Rattle.std.proofs.Common.{◌∙◌, ◌++◌, ◌∷◌, [], List, Some, ap, sym, subst}
use Rattle.std.specs.Arc.{arc_value}
use Rattle.indexed_rows.specs.Rows.{AreValidRows}
use Rattle.content_state.specs.declared.commit.Commit.{Commit}
use Rattle.site_keeper.specs.Batch.{Batch}
use Rattle.site_keeper.specs.Keeper.{IfTold, with_batch, and_batch, CountsFault, LeavesBatch}
use Rattle.site_keeper.specs.declared.fault.KeeperFault.{KeeperFault}
use Rattle.site_keeper.specs.declared.fault.KeeperFault.TheVariants as keeper_fault
use Rattle.site_hall.specs.Hall.{HallView, IsHall}
use Rattle.site_hall.specs.Log.{Made}
use Rattle.site_hall.specs.ReadyEdit.{Ready}
use Rattle.site_hall.specs.Ready.{MayBeNext, IsPending, published}
use Rattle.site_hall.specs.Within.{view_of}
use Rattle.site_hall.proofs.Halls.{right_after, published_view, published_hall, pending_after, pending_hall, whole_none, whole_pending, next_place}
use Rattle.site_hall.proofs.engine.Engine.keep_edit.Goals as goal

-- the rows that are held then are right

pub apply-answer-requires : goal.apply-answer-requires
apply-answer-requires g c =
    let kept = g.K.Keeper.kept c.self.inside.keeper in
    let hall = view_of c.self.inside.log c.self.inside.pending kept (g.K.Keeper.faults c.self.inside.keeper) (g.K.Keeper.steadfast c.self.inside.keeper) c.self.inside.stock in
    let next = subst (λ (h : HallView). MayBeNext h c.args.ready) (sym c.self.view_is) c.requires in
    let batch_is = ap (λ (r : Ready). r.batch) c.ready.view_is in
    record {
      right = subst (λ (b : Batch). IfTold kept (λ held. AreValidRows (with_batch held b).rows)) (sym batch_is) (right_after hall c.args.ready c.self.invariant.is_hall next);
    }

-- it is published

pub returns-in-Ok-clause-published : goal.returns-in-Ok-clause-published
returns-in-Ok-clause-published g c =
    let next = subst (λ (hall : HallView). MayBeNext hall c.args.ready) (sym c.self.view_is) c.requires in
    let batch_is = ap (λ (r : Ready). r.batch) c.ready.view_is in
    let commit_is = ap (λ (b : Batch). b.commit) c.batch.view_is ∙ ap (λ (b : Batch). b.commit) batch_is in
    published_view c.self.inside.log c.publish.new.self c.self.inside.pending (g.K.Keeper.kept c.self.inside.keeper) (g.K.Keeper.kept c.apply-answer.new.self)
    (g.K.Keeper.faults c.self.inside.keeper) (g.K.Keeper.faults c.apply-answer.new.self) (g.K.Keeper.steadfast c.self.inside.keeper) (g.K.Keeper.steadfast c.apply-answer.new.self) c.self.inside.stock c.args.ready c.self.invariant.is_hall next
    (c.publish.ensures.base ∙ c.reserve.ensures.base)
    (c.publish.ensures.edits ∙ ap (λ (l : List Commit). l ++ arc_value c.batch.inside.commit ∷ []) c.reserve.ensures.edits ∙ ap (λ (d : Commit). c.self.inside.log.edits ++ d ∷ []) commit_is)
    (c.in-Ok.ensures.ok ∙ ap (and_batch (g.K.Keeper.kept c.self.inside.keeper)) batch_is)
    c.in-Ok.ensures.steady c.apply-answer.ensures.steadfast.tells
    ∙ ap (λ (hall : HallView). published hall c.args.ready.batch) c.self.view_is

pub returns-in-Ok-clause-is_hall : goal.returns-in-Ok-clause-is_hall
returns-in-Ok-clause-is_hall g c =
    let h = subst IsHall c.self.view_is c.self.invariant.is_hall in
    subst IsHall (sym (returns-in-Ok-clause-published g c)) (published_hall c.args.self.now c.args.ready h c.requires)

pub invariant_of-self-in-Ok : goal.invariant_of-self-in-Ok
invariant_of-self-in-Ok g c =
    whole_none c.publish.new.self c.self.inside.pending (g.K.Keeper.kept c.apply-answer.new.self) (g.K.Keeper.faults c.apply-answer.new.self) (g.K.Keeper.steadfast c.apply-answer.new.self) c.self.inside.stock
    (ap (λ (hall : HallView). hall.pending) c.self.view_is ∙ c.requires.none_pending) (returns-in-Ok-clause-is_hall g c)

-- it is pending

pub returns-in-Failed-clause-leaves : goal.returns-in-Failed-clause-leaves
returns-in-Failed-clause-leaves g c =
    let kept = g.K.Keeper.kept c.self.inside.keeper in
    let kept' = g.K.Keeper.kept c.apply-answer.new.self in
    let faults = g.K.Keeper.faults c.self.inside.keeper in
    let faults' = g.K.Keeper.faults c.apply-answer.new.self in
    let made : Made = record { commit = arc_value c.batch.inside.commit; state = arc_value c.ready.inside.state } in
    let next = subst (λ (hall : HallView). MayBeNext hall c.args.ready) (sym c.self.view_is) c.requires in
    let batch_is = ap (λ (r : Ready). r.batch) c.ready.view_is in
    let commit_is = ap (λ (b : Batch). b.commit) c.batch.view_is ∙ ap (λ (b : Batch). b.commit) batch_is in
    let leaves = subst (λ (fault : KeeperFault). LeavesBatch fault kept c.ready.inside.batch kept') c.in-Failed.is c.in-Err.ensures.err in
    let cause = subst (λ (fault : KeeperFault). CountsFault fault faults faults') c.in-Failed.is c.in-Err.ensures.cause in
    let new = view_of c.reserve.new.self (Some made) kept' faults' (g.K.Keeper.steadfast c.apply-answer.new.self) c.self.inside.stock in
    subst (λ (old : HallView). IsPending old c.args.ready.batch new) c.self.view_is
    (pending_after c.self.inside.log c.reserve.new.self c.self.inside.pending kept kept' faults faults' (g.K.Keeper.steadfast c.self.inside.keeper) (g.K.Keeper.steadfast c.apply-answer.new.self) c.self.inside.stock c.args.ready made c.self.invariant.is_hall next c.reserve.ensures.base c.reserve.ensures.edits commit_is
    (subst (λ (b : Batch). LeavesBatch keeper_fault.Failed kept b kept') batch_is leaves) cause c.apply-answer.ensures.steadfast.tells)

pub returns-in-Failed-clause-is_hall : goal.returns-in-Failed-clause-is_hall
returns-in-Failed-clause-is_hall g c =
    let p = returns-in-Failed-clause-leaves g c in
    let h = subst IsHall c.self.view_is c.self.invariant.is_hall in
    subst IsHall (sym p.stays)
    (pending_hall c.args.self.now c.args.ready (g.K.Keeper.kept c.apply-answer.new.self) (g.K.Keeper.faults c.apply-answer.new.self) h c.requires p.kept_or_not)

pub invariant_of-self-in-Failed : goal.invariant_of-self-in-Failed
invariant_of-self-in-Failed g c =
    let made : Made = record { commit = arc_value c.batch.inside.commit; state = arc_value c.ready.inside.state } in
    let next = subst (λ (hall : HallView). MayBeNext hall c.args.ready) (sym c.self.view_is) c.requires in
    let batch_is = ap (λ (r : Ready). r.batch) c.ready.view_is in
    let commit_is = ap (λ (b : Batch). b.commit) c.batch.view_is ∙ ap (λ (b : Batch). b.commit) batch_is in
    whole_pending c.reserve.new.self made (g.K.Keeper.kept c.apply-answer.new.self) (g.K.Keeper.faults c.apply-answer.new.self) (g.K.Keeper.steadfast c.apply-answer.new.self) c.self.inside.stock (returns-in-Failed-clause-is_hall g c)
    (next_place c.self.inside.log c.reserve.new.self c.args.ready made next.follows c.reserve.ensures.base c.reserve.ensures.edits
    c.in_ok-reserve.ensures.room commit_is (ap (λ (r : Ready). r.state) c.ready.view_is))
