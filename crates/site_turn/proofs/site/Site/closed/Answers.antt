use Rattle.std.proofs.Common.{◌≡◌, ◌∙◌, sym, subst}
use Rattle.turn_rule.specs.Steps.{founding}
use Rattle.site_hall.specs.Hall.{HallView}
use Rattle.site_hall.specs.Sides.{engine_of}
use Rattle.site_table.specs.Views.{part_at}
use Rattle.site_turn.specs.Views.{noted}
use Rattle.site_turn.specs.Closing.{notes_of, IsClosed}
use Rattle.site_turn.proofs.Seats.{seat_is}
use Rattle.site_turn.proofs.Ending.{ended, is_closed, stands_then, sides_stand}
use Rattle.site_turn.proofs.site.Site.closed.Goals as goal

pub of_sides-requires : goal.of_sides-requires
of_sides-requires g c =
    let founder = c.args.self.founder in
    let hall = c.take_hall-hall in
    let desk = c.take_desk-desk in
    let part = part_at desk.new.seat.me in
    let e = c.into_seat-seat.ensures in
    let me = seat_is _ c.into_seat-seat.result.me (founding founder) c.into_parts-table.ensures.founds e.2 e.3 in
    let ends = ended founder c.into_seat-seat.result.me desk.new.seat.me hall.new.seat.me c.gather-seat.result.me hall.result c.args.passes.items me desk.ensures.taken hall.ensures.taken c.gather-seat.ensures.gathered c.end.ensures in (
      part.loaded.told,
      sides_stand part.loaded.told hall.result c.into_hall.result desk.result c.into_desk.result c.into_hall.ensures c.into_desk.ensures (stands_then hall.result part desk.result ends.agree desk.ensures.stands),
    )

pub returns-clause-closed : goal.returns-clause-closed
returns-clause-closed g c =
    let founder = c.args.self.founder in
    let hall = c.take_hall-hall in
    let desk = c.take_desk-desk in
    let part = part_at desk.new.seat.me in
    let e = c.into_seat-seat.ensures in
    let me = seat_is _ c.into_seat-seat.result.me (founding founder) c.into_parts-table.ensures.founds e.2 e.3 in
    let ends = ended founder c.into_seat-seat.result.me desk.new.seat.me hall.new.seat.me c.gather-seat.result.me hall.result c.args.passes.items me desk.ensures.taken hall.ensures.taken c.gather-seat.ensures.gathered c.end.ensures in
    let stands = sides_stand part.loaded.told hall.result c.into_hall.result desk.result c.into_desk.result c.into_hall.ensures c.into_desk.ensures (stands_then hall.result part desk.result ends.agree desk.ensures.stands) in
    let engine : c.of_sides.result ≡ engine_of part.loaded.told hall.result desk.result = c.of_sides.ensures.engine part.loaded.told stands ∙ λ i. engine_of part.loaded.told (c.into_hall.ensures i) (c.into_desk.ensures i) in
    subst (λ (v : HallView). IsClosed founder (noted v) (notes_of c.args.passes.items)) (sym engine) (is_closed founder hall.result part desk.result c.args.passes.items desk.ensures.stands ends c.requires.all)
