use Rattle.std.proofs.Common.{◌∙◌, ◌<◌, ◌∷◌, [], arith, ap, refl, subst}
use Rattle.std.specs.Prelude.{Some, None}
use Rattle.turn_rule.specs.Logs.{desk_part}
use Rattle.turn_rule.specs.Rule.{Counted, count_of}
use Rattle.turn_rule.specs.Steps.{with_hall}
use Rattle.turn_laws.proofs.Beginning.{sites_opened}
use Rattle.turn_laws.proofs.Taking.{halls_back, desks_back}
use Rattle.site_hall.specs.Sides.{engine_of}
use Rattle.site_hall.specs.declared.tally.Tally.{Tally}
use Rattle.site_table.specs.Views.{noted_in, desk_in, part_of, desk_note, tally_note}
use Rattle.site_turn.specs.Views.{noted}
use Rattle.site_turn.proofs.Seats.{little_counted}
use Rattle.site_turn.proofs.Opening.{opening_stands, opened_note, hall_in, desk_in_it, founds_it}
use Rattle.site_turn.proofs.site.Site.opened.Goals as goal

pub compare_exchange_with-requires : goal.compare_exchange_with-requires
compare_exchange_with-requires g c =
    let room = c.requires.room in
    let words = room.1.0 in
    let fits = c.counts_fit.ensures in
    let told = c.requires.stands in
    let small = subst (λ (t : Tally). (counted : Counted) → count_of counted (tally_note t) < 18446744073709551616) c.tally-tally.ensures (little_counted (tally_note c.tally-tally.result) fits.looks fits.found fits.kept) in (
      room.0,
      omega arith,
      sites_opened noted_in desk_in _ _ _ (Some c.args.hall, Some c.args.desk) (noted (engine_of told.0 c.args.hall c.args.desk)) (desk_note c.args.desk) _ _ room.1.1 c.requires.seat refl refl refl
          (opening_stands told.0 c.args.hall c.args.desk told.1 c.len-length.ensures.is_hall) c.requires.none small (let l = c.len-length.ensures.len in grind arith),
    )

pub store-requires : goal.store-requires
store-requires g c =
    let room = c.requires.room in
    let words = room.1.0 in
    let told = c.requires.stands in
    let o = c.compare_exchange_with in
    let e = c.exchange in
    let hall = hall_in told.0 c.args.hall c.args.desk told.1 c.requires.none c.args.seat.me o.new.seat.me e.new.seat.me _ (ap (λ m. m.1) c.requires.seat) refl o.ensures.2 e.ensures.3 in (
      e.ensures.0 ∙ o.ensures.0 ∙ room.0,
      omega arith,
      halls_back noted_in desk_in _ _ _ (opened_note told.0 c.args.hall c.args.desk) (Some c.args.hall, None) ((1, hall.0) ∷ []) (part_of c.args.hall) room.1.1 hall.1 refl refl refl,
    )

pub store-requires-2 : goal.store-requires-2
store-requires-2 g c =
    let room = c.requires.room in
    let words = room.1.0 in
    let told = c.requires.stands in
    let o = c.compare_exchange_with in
    let e = c.exchange in
    let h = c.store in
    let f = c.exchange-2 in
    let desk = desk_in_it told.0 c.args.hall c.args.desk told.1 c.requires.none c.args.seat.me o.new.seat.me e.new.seat.me _ (ap (λ m. m.1) c.requires.seat) refl o.ensures.2 e.ensures.3 h.new.seat.me f.new.seat.me h.ensures.2 f.ensures.3 in (
      f.ensures.0 ∙ h.ensures.0 ∙ e.ensures.0 ∙ o.ensures.0 ∙ room.0,
      omega arith,
      desks_back noted_in desk_in _ _ _ (with_hall None (opened_note told.0 c.args.hall c.args.desk)) (None, Some c.args.desk) [] (desk_note c.args.desk) (desk_part (noted (engine_of told.0 c.args.hall c.args.desk))) room.1.1 desk refl refl refl
          (opening_stands told.0 c.args.hall c.args.desk told.1 c.len-length.ensures.is_hall),
    )

pub returns : goal.returns
returns g c =
    let o = c.compare_exchange_with in
    let e = c.exchange in
    let h = c.store in
    let f = c.exchange-2 in
    let d = c.store-2 in
    λ told stands. founds_it told c.args.hall c.args.desk stands c.requires.none c.args.seat.me o.new.seat.me e.new.seat.me _ (ap (λ m. m.1) c.requires.seat) refl o.ensures.2 e.ensures.3 h.new.seat.me f.new.seat.me d.new.seat.me c.into_badge.result.views h.ensures.2 f.ensures.3 d.ensures.2 c.into_badge.ensures.2
