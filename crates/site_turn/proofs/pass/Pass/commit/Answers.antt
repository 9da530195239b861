use Rattle.std.proofs.Common.{◌∙◌, ◌∷◌, [], ap, sym, subst}
use Rattle.std.specs.Option.{option_copied}
use Rattle.turn_rule.specs.Steps.{bearing}
use Rattle.site_table.specs.Views.{pass_of}
use Rattle.site_turn.specs.Turns.{Commits}
use Rattle.site_turn.proofs.Seats.{seat_is}
use Rattle.site_turn.proofs.Going.{taken_at, commits, has_pass}
use Rattle.site_turn.proofs.pass.Pass.commit.Goals as goal

pub edit-answer-requires-clause-at : goal.edit-answer-requires-clause-at
edit-answer-requires-clause-at g c =
    let value = ap (λ b. b.views) c.replace-badge.ensures.value in
    let e = c.into_seat-seat.ensures in
    let me = seat_is _ c.into_seat-seat.result.me (bearing (pass_of c.self.inside.seat.views)) (value ∙ c.self.invariant.bears) e.2 e.3 in
    let d = c.take_desk-desk in
    (taken_at c.into_seat-seat.result.me d.new.seat.me (pass_of c.self.inside.seat.views) d.result me d.ensures.taken d.ensures.stands d.ensures.knows).0

pub invariant_of-self : goal.invariant_of-self
invariant_of-self g c =
    let value = ap (λ b. b.views) c.replace-badge.ensures.value in
    let e = c.into_seat-seat.ensures in
    let me = seat_is _ c.into_seat-seat.result.me (bearing (pass_of c.self.inside.seat.views)) (value ∙ c.self.invariant.bears) e.2 e.3 in
    let d = c.take_desk-desk in
    let at = taken_at c.into_seat-seat.result.me d.new.seat.me (pass_of c.self.inside.seat.views) d.result me d.ensures.taken d.ensures.stands d.ensures.knows in
    let edit = c.edit-answer in
    has_pass edit.result c.args.ask.now (option_copied c.args.csrf) c.args.command.now c.args.now c.self.inside.number d.new.seat.me edit.new.seat.me d.result edit.new.desk at.0 d.ensures.stands.faults edit.ensures.edited edit.ensures.at
    (c.self.invariant.number_is ∙ sym (ap (λ p. p.number) at.1)) c.into_badge.result.views (c.into_badge.ensures.2 ∙ ap (λ m. m.0 ∷ []) c.give_desk.ensures.back) c.give_desk.ensures.knows _ c.faults-self-inside.ensures

pub returns-clause-commits : goal.returns-clause-commits
returns-clause-commits g c =
    let value = ap (λ b. b.views) c.replace-badge.ensures.value in
    let e = c.into_seat-seat.ensures in
    let me = seat_is _ c.into_seat-seat.result.me (bearing (pass_of c.self.inside.seat.views)) (value ∙ c.self.invariant.bears) e.2 e.3 in
    let d = c.take_desk-desk in
    let at = taken_at c.into_seat-seat.result.me d.new.seat.me (pass_of c.self.inside.seat.views) d.result me d.ensures.taken d.ensures.stands d.ensures.knows in
    let edit = c.edit-answer in
    subst (λ p. Commits edit.result p (pass_of c.into_badge.result.views) c.args.ask.now (option_copied c.args.csrf) c.args.command.now c.args.now) (at.1 ∙ ap (λ v. v.note) c.self.view_is)
    (commits edit.result c.args.ask.now (option_copied c.args.csrf) c.args.command.now c.args.now c.self.inside.number d.new.seat.me edit.new.seat.me d.result edit.new.desk at.0 d.ensures.stands.faults edit.ensures.edited edit.ensures.at
    (c.self.invariant.number_is ∙ sym (ap (λ p. p.number) at.1)) c.into_badge.result.views (c.into_badge.ensures.2 ∙ ap (λ m. m.0 ∷ []) c.give_desk.ensures.back) c.give_desk.ensures.knows)
