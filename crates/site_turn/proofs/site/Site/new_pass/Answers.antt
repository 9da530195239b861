use Rattle.std.proofs.Common.{◌∙◌, arith, ap}
use Rattle.turn_rule.specs.Steps.{founding, new_pass}
use Rattle.turn_laws.proofs.Seating.{passes_drawn, passes_seated}
use Rattle.site_table.specs.Views.{noted_in, desk_in}
use Rattle.site_turn.specs.Views.{founder_of}
use Rattle.site_turn.proofs.Seats.{seat_is}
use Rattle.site_turn.proofs.site.Site.new_pass.Goals as goal

pub load-requires : goal.load-requires
load-requires g c =
    let site = c.self.invariant in
    let founder = founder_of c.self.inside.founder.views in
    let value = c.replace-founder.ensures.value in
    let seat = c.into_seat-seat.ensures in
    let me = seat_is _ c.into_seat-seat.result.me (founding founder) (ap (λ b. b.views) value ∙ site.founds) seat.2 seat.3 in
    let words = site.room.0 in (
      seat.0 ∙ ap (λ b. b.table_id) value ∙ site.one_table,
      omega arith,
      passes_drawn noted_in desk_in _ _ _ founder site.room.1 me,
    )

pub split_seat-new-requires : goal.split_seat-new-requires
split_seat-new-requires g c =
    let site = c.self.invariant in
    let value = c.replace-founder.ensures.value in
    let seat = c.into_seat-seat.ensures in
    let drawn = c.load.ensures in
    let words = site.room.0 in (
      drawn.0 ∙ seat.0 ∙ ap (λ b. b.table_id) value ∙ site.one_table,
      omega arith,
      passes_seated noted_in desk_in _ _ (new_pass drawn.2.0) _ (ap (λ m. m.0.fresh) drawn.2.2) (ap (λ m. m.0.passes) drawn.2.2),
    )
