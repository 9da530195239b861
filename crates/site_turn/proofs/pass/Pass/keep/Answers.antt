use Rattle.std.proofs.Common.{◌≡◌, ◌∙◌, ap, sym, subst}
use Rattle.turn_rule.specs.Steps.{Counts, KnowsHall}
use Rattle.site_hall.specs.Looked.{KeepsUnder}
use Rattle.site_hall.specs.Sides.{HallSide, with_shelves}
use Rattle.site_table.specs.Kinds.{counts_of}
use Rattle.site_table.specs.Turns.{counts_of_keep}
use Rattle.site_table.specs.Views.{part_of, pass_of, pass_at, out_at}
use Rattle.site_turn.specs.Turns.{Looks}
use Rattle.site_turn.proofs.Going.{is_out, looked_back}
use Rattle.site_turn.proofs.Halls.{keep_counts}
use Rattle.site_turn.proofs.Houses.{sound_out}
use Rattle.site_turn.proofs.pass.Pass.keep.Goals as goal

pub keep-answer-requires : goal.keep-answer-requires
keep-answer-requires g c =
    let same = ap (λ b. pass_of b.views) c.replace-badge.ensures.value ∙ ap (λ v. v.note) c.self.view_is in
    sound_out c.args.self.now.note c.out-seat.result.1 c.args.key c.args.kept (subst (KnowsHall (part_of c.out-seat.result.1)) same c.out-seat.ensures.knows) c.requires.sound

pub back-requires-clause-out : goal.back-requires-clause-out
back-requires-clause-out g c =
    let old = c.out-seat.result.1 in
    let new = c.keep-answer.new.self in
    let counts = subst (λ m. Counts m (part_of old) (part_of new)) (sym c.kept_by-deed.ensures) (keep_counts c.keep-answer.result old new c.args.bin c.args.key c.args.kept c.keep-answer.ensures.keeps c.keep-answer.ensures.beside) in
    is_out (counts_of c.kept_by-deed.result) _ (pass_of c.replace-badge.result.views) old new c.out-seat.ensures.taken counts

pub returns-clause-looks : goal.returns-clause-looks
returns-clause-looks g c =
    let old = c.out-seat.result.1 in
    let new = c.keep-answer.new.self in
    let pass = pass_of c.self.inside.seat.views in
    let same = ap (λ b. pass_of b.views) c.replace-badge.ensures.value in
    let before = subst (KnowsHall (part_of old)) same c.out-seat.ensures.knows in
    let counts = subst (λ m. Counts m (part_of old) (part_of new)) (sym c.kept_by-deed.ensures) (keep_counts c.keep-answer.result old new c.args.bin c.args.key c.args.kept c.keep-answer.ensures.keeps c.keep-answer.ensures.beside) in
    let does : HallSide → HallSide → Type 0 = λ before after. KeepsUnder c.keep-answer.result before.stock after.stock c.args.bin c.args.key c.args.kept × (after ≡ with_shelves before after.stock) in
    subst (λ p. Looks (counts_of_keep c.keep-answer.result) does p (pass_of c.back.result.views)) (ap (λ v. v.note) c.self.view_is)
    (subst (λ m. Looks m does pass (pass_of c.back.result.views)) c.kept_by-deed.ensures (record {
      before = old;
      after = new;
      knows = before;
      did = (c.keep-answer.ensures.keeps, c.keep-answer.ensures.beside);
      is_hall = c.back.ensures.is_hall;
      went = looked_back (counts_of c.kept_by-deed.result) pass _ _ c.back.result.views old new (ap pass_at c.out-seat.ensures.taken ∙ same) (ap out_at c.out-seat.ensures.taken) c.back.ensures.back before counts c.back.ensures.knows;
    }))
