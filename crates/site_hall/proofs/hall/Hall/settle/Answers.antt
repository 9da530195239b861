use Rattle.std.proofs.Common.{◌∙◌, Option, sym, subst}
use Rattle.site_hall.specs.Log.{Made}
use Rattle.site_hall.specs.Sides.{IsHallSide}
use Rattle.site_hall.specs.Within.{IsWholeSide}
use Rattle.site_hall.proofs.Wholes.{published_side, forgotten_side}
use Rattle.site_hall.proofs.hall.Hall.settle.Goals as goal
use Rattle.site_hall.proofs.hall.Hall.settle.Goals.{then-kept, else-kept}

pub publish-requires-clause-room : goal.publish-requires-clause-room
publish-requires-clause-room g c = (c.self.invariant.has_place c.in-Some.made (sym c.take.ensures.value ∙ c.in-Some.is)).room

pub publish-requires-clause-short : goal.publish-requires-clause-short
publish-requires-clause-short g c = (c.self.invariant.has_place c.in-Some.made (sym c.take.ensures.value ∙ c.in-Some.is)).short

pub invariant_of-self : goal.invariant_of-self
invariant_of-self g c =
    let whole = subst (λ (p : Option Made). IsWholeSide c.self.inside.log p c.self.inside.stock) (sym c.take.ensures.value ∙ c.in-Some.is) c.self.invariant in
    subst (λ (p : Option Made). IsWholeSide c.publish.new.self p c.self.inside.stock) (sym c.take.ensures.after)
    (published_side c.self.inside.log c.publish.new.self c.self.inside.stock c.in-Some.made whole c.publish.ensures.base c.publish.ensures.edits)

pub invariant_of-self-else-kept : goal.invariant_of-self-else-kept
invariant_of-self-else-kept g c =
    let whole = subst (λ (p : Option Made). IsWholeSide c.self.inside.log p c.self.inside.stock) (sym c.take.ensures.value ∙ c.in-Some.is) c.self.invariant in
    subst (λ (p : Option Made). IsWholeSide c.self.inside.log p c.self.inside.stock) (sym c.take.ensures.after)
    (forgotten_side c.self.inside.log c.self.inside.stock c.in-Some.made whole)

pub returns-clause-is_hall : goal.returns-clause-is_hall
returns-clause-is_hall g c =
    let whole = subst (λ (p : Option Made). IsWholeSide c.self.inside.log p c.self.inside.stock) (sym c.take.ensures.value ∙ c.in-Some.is) c.self.invariant in
    elim c.if-kept.branch [
      | then-kept w ↦ subst IsHallSide (sym w.self-is)
          (subst (λ (p : Option Made). IsWholeSide w.publish.new.self p c.self.inside.stock) (sym c.take.ensures.after)
          (published_side c.self.inside.log w.publish.new.self c.self.inside.stock c.in-Some.made whole w.publish.ensures.base w.publish.ensures.edits)).is_hall
      | else-kept w ↦ subst IsHallSide (sym w.self-is)
          (subst (λ (p : Option Made). IsWholeSide c.self.inside.log p c.self.inside.stock) (sym c.take.ensures.after)
          (forgotten_side c.self.inside.log c.self.inside.stock c.in-Some.made whole)).is_hall
    ]
