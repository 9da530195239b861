use Rattle.std.proofs.Common.{◌≡◌, ◌∙◌, ◌++◌, ◌∷◌, [], List, arith, ap, subst, append_assoc}
use Rattle.turn_rule.specs.Steps.{bearing, joined}
use Rattle.turn_laws.proofs.Seating.{passes_joined}
use Rattle.site_table.specs.Views.{noted_in, desk_in, pass_of}
use Rattle.site_turn.specs.Views.{PassView}
use Rattle.site_turn.specs.Closing.{AreOf}
use Rattle.site_turn.proofs.Seats.{seat_is}
use Rattle.site_turn.proofs.Ending.{all_last}
use Rattle.site_turn.proofs.closing.gather.Goals as goal

pub join_seat-requires : goal.join_seat-requires
join_seat-requires g c =
    let room = c.requires.room in
    let words = room.1.0 in
    let loop = c.passes.invariant in
    let here = all_last (λ p. p.table ≡ c.args.seat.table_id) c.pop.new.self.items c.in-Some.pass (subst (AreOf c.args.seat.table_id) c.in-Some.ensures.items loop.1) in
    let e = c.into_seat.ensures in
    let pass = pass_of c.pass.inside.seat.views in
    let you = seat_is _ c.into_seat.result.me (bearing pass) c.pass.invariant.bears e.2 e.3 in (
      loop.0 ∙ room.0,
      e.0 ∙ ap (λ v. v.table) c.pass.view_is ∙ here.1 ∙ room.0,
      e.3,
      omega arith,
      passes_joined noted_in desk_in _ _ _ _ pass (ap (λ m. m.0.fresh) loop.2.2 ∙ c.requires.note.0) (ap (λ m. m.0) you),
    )

pub passes-preserved : goal.passes-preserved
passes-preserved g c =
    let loop = c.passes.invariant in
    let items = c.in-Some.ensures.items in
    let here = all_last (λ p. p.table ≡ c.args.seat.table_id) c.pop.new.self.items c.in-Some.pass (subst (AreOf c.args.seat.table_id) items loop.1) in
    let e = c.into_seat.ensures in
    let you = seat_is _ c.into_seat.result.me (bearing (pass_of c.pass.inside.seat.views)) c.pass.invariant.bears e.2 e.3 ∙ ap (λ v. (bearing v.note, [])) c.pass.view_is in
    let joins = c.join_seat.ensures in (
      joins.0 ∙ loop.0,
      here.0,
      (
        c.in-Some.pass ∷ loop.2.0,
        loop.2.1 ∙ ap (λ (l : List PassView). l ++ loop.2.0) items ∙ append_assoc c.pop.new.self.items (c.in-Some.pass ∷ []) loop.2.0,
        joins.2 ∙ λ i. (joined ((loop.2.2 i).0) ((you i).0), (loop.2.2 i).1),
      ),
    )
