use Rattle.std.proofs.Common.{◌∙◌, ◌++◌, ◌∷◌, [], List, ap, subst, refl}
use Rattle.std.specs.Arc.{arc_value}
use Rattle.content_state.specs.declared.commit.Commit.{Commit}
use Rattle.site_keeper.specs.declared.fault.KeeperFault.{KeeperFault}
use Rattle.site_hall.specs.Alone.{AloneView}
use Rattle.site_hall.specs.Hall.{IsHall}
use Rattle.site_hall.specs.ReadyEdit.{Ready}
use Rattle.site_hall.specs.Ready.{LeavesReady, published}
use Rattle.site_hall.specs.declared.making.Ready.TheInside.{Inside}
use Rattle.site_hall.proofs.Callers.{published_alone, pending_alone, handed_as}
use Rattle.site_hall.proofs.alone.Alone.hand_in.Goals as goal

-- it was published

pub invariant_of-self-in-Ok : goal.invariant_of-self-in-Ok
invariant_of-self-in-Ok g c =
    let a : AloneView = record { hall = c.self.inside.hall; opened = c.self.inside.opened; handed = c.self.inside.handed.items; keepers = c.self.inside.keepers; unkept = c.self.inside.unkept } in
    let none = ap (λ (v : AloneView). v.hall.pending) c.self.view_is ∙ c.requires.next.none_pending in
    let h = subst IsHall c.in-Ok.ensures.published c.keep_edit.ensures.is_hall in
    let commit_is = c.in_ok-commit.ensures ∙ ap (λ (r : Inside). r.batch.commit) c.ready-inside.view_is ∙ ap (λ (r : Ready). r.batch.commit) c.ready.view_is in
    handed_as a (published c.self.inside.hall c.args.ready.batch) c.keep_edit.new.self c.args.ready.batch.commit c.push.new.self.items
    (published_alone a c.args.ready.batch c.self.invariant none c.requires.pass h) c.in-Ok.ensures.published
    (c.in-Ok-push.ensures.items ∙ ap (λ (l : List Commit). l ++ arc_value c.in_ok-commit.commit ∷ []) c.reserve.ensures.items ∙ ap (λ (d : Commit). c.self.inside.handed.items ++ d ∷ []) commit_is)

pub returns-in-Ok-push-clause-is_alone : goal.returns-in-Ok-push-clause-is_alone
returns-in-Ok-push-clause-is_alone g c = invariant_of-self-in-Ok g c

-- it is pending

pub invariant_of-self-in-Failed : goal.invariant_of-self-in-Failed
invariant_of-self-in-Failed g c =
    let a : AloneView = record { hall = c.self.inside.hall; opened = c.self.inside.opened; handed = c.self.inside.handed.items; keepers = c.self.inside.keepers; unkept = c.self.inside.unkept } in
    let none = ap (λ (v : AloneView). v.hall.pending) c.self.view_is ∙ c.requires.next.none_pending in
    let p = subst (λ (fault : KeeperFault). LeavesReady fault c.self.inside.hall c.args.ready.batch c.keep_edit.new.self) c.in-Failed.is c.in-Err.ensures.leaves in
    let commit_is = c.in_ok-commit.ensures ∙ ap (λ (r : Inside). r.batch.commit) c.ready-inside.view_is ∙ ap (λ (r : Ready). r.batch.commit) c.ready.view_is in
    handed_as a c.keep_edit.new.self c.keep_edit.new.self c.args.ready.batch.commit c.push-in-Failed.new.self.items
    (pending_alone a c.args.ready.batch c.keep_edit.new.self c.self.invariant none c.requires.pass p c.keep_edit.ensures.is_hall) refl
    (c.in-Ok-push-2.ensures.items ∙ ap (λ (l : List Commit). l ++ arc_value c.in_ok-commit.commit ∷ []) c.reserve.ensures.items ∙ ap (λ (d : Commit). c.self.inside.handed.items ++ d ∷ []) commit_is)

pub returns-in-Ok-push-2-clause-is_alone : goal.returns-in-Ok-push-2-clause-is_alone
returns-in-Ok-push-2-clause-is_alone g c = invariant_of-self-in-Failed g c
