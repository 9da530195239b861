use Rattle.std.proofs.Common.{◌∙◌, ap, refl, subst}
use Rattle.turn_rule.specs.Steps.{zeros, KnowsHall}
use Rattle.site_table.specs.Views.{part_of, pass_of, pass_at, out_at}
use Rattle.site_turn.specs.Turns.{Reads}
use Rattle.site_turn.proofs.Editing.{still}
use Rattle.site_turn.proofs.Going.{is_out, looked_back}
use Rattle.site_turn.proofs.pass.Pass.snapshot.Goals as goal

pub back-requires-clause-out : goal.back-requires-clause-out
back-requires-clause-out g c =
    let hall = c.out-seat.result.1 in
    is_out zeros _ (pass_of c.replace-badge.result.views) hall hall c.out-seat.ensures.taken (still hall)

pub returns-clause-looks : goal.returns-clause-looks
returns-clause-looks g c =
    let hall = c.out-seat.result.1 in
    let pass = pass_of c.self.inside.seat.views in
    let same = ap (λ b. pass_of b.views) c.replace-badge.ensures.value in
    let before = subst (KnowsHall (part_of hall)) same c.out-seat.ensures.knows in
    subst (λ p. Reads p (pass_of c.back.result.views)) (ap (λ v. v.note) c.self.view_is) (record {
      before = hall;
      after = hall;
      knows = before;
      did = refl;
      is_hall = c.back.ensures.is_hall;
      went = looked_back zeros pass _ _ c.back.result.views hall hall (ap pass_at c.out-seat.ensures.taken ∙ same) (ap out_at c.out-seat.ensures.taken) c.back.ensures.back before (still hall) c.back.ensures.knows;
    })
