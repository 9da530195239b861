use Rattle.std.proofs.Common.{◌∙◌, length, ap, sym, subst}
use Rattle.std.specs.Arc.{arc_value}
use Rattle.site_keeper.specs.Batch.{Batch}
use Rattle.site_hall.specs.Log.{Made}
use Rattle.site_hall.specs.ReadyEdit.{Ready}
use Rattle.site_hall.specs.Accepted.{MayFollow}
use Rattle.site_hall.specs.Sides.{HallSide, newest_at}
use Rattle.site_hall.proofs.Wholes.{announced_side}
use Rattle.site_hall.proofs.hall.Hall.announce.Goals as goal

pub invariant_of-self-2 : goal.invariant_of-self-2
invariant_of-self-2 g c =
    let made : Made = record { commit = arc_value c.in_ok-commit.commit; state = arc_value c.ready.inside.state } in
    let none = ap (λ (h : HallSide). h.pending) c.self.view_is ∙ c.requires.none.0 in
    let follows = subst (λ (h : HallSide). MayFollow (newest_at h) (length h.log) c.args.ready) (sym c.self.view_is) c.requires.asked.is_ready.follows in
    let batch_is = ap (λ (r : Ready). r.batch) c.ready.view_is in
    let commit_is = c.in_ok-commit.ensures ∙ ap (λ (b : Batch). b.commit) c.batch.view_is ∙ ap (λ (b : Batch). b.commit) batch_is in
    announced_side c.args.ready made c.self.invariant none follows c.reserve.ensures.base c.reserve.ensures.edits c.in_ok-reserve.ensures.room commit_is (ap (λ (r : Ready). r.state) c.ready.view_is)

pub returns-clause-is_hall : goal.returns-clause-is_hall
returns-clause-is_hall g c = (invariant_of-self-2 g c).is_hall
