use Rattle.std.proofs.Common.{◌≡◌, ◌∙◌, ◌+◌, ℕ, ap, drop, subst, suc}
use Rattle.std.proofs.lemmas.Result.{err_from_is_err_and}
use Rattle.element_entries.specs.Keys.{visit}
use Rattle.late_pages.specs.Late.{LatePart, PartShows, part_text}
use Rattle.late_pages.proofs.Exist.{parts_exist}
use Rattle.site_house.proofs.Moving.{moves_on}
use Rattle.site_io.specs.Told.{after, AddsFront}
use Rattle.site_late.specs.Sending.{reader_of}
use Rattle.site_late.proofs.Seen.{stays_on}
use Rattle.site_late.proofs.Templates.{writes_front, writes_more}
use Rattle.site_late.proofs.parts.send_parts.Goals as goal

pub returns-in_err-send_part-clause-some : goal.returns-in_err-send_part-clause-some
returns-in_err-send_part-clause-some g c =
    let r = reader_of c.args.state.now c.args.ask.now c.args.now in
    let v = visit r in
    let holes = c.args.holes.now in
    let i = c.holes.hole-index in
    let hole = c.hole-item.result in
    let now = g.O.Sink.written c.holes.sink in
    let later = g.O.Sink.written c.send_part.new.sink in
    let p = err_from_is_err_and c.from_residual.result c.from_residual.ensures.1 in
    rw (p.1, p.2)
    (writes_front c.in_err-send_part.field-0.0 r holes i hole (g.H.House.sees c.args.house.now) (g.H.House.sees c.holes.house) (g.H.House.sees c.send_part.new.house) (g.G.Gate.reached c.args.gate.now) (g.G.Gate.reached c.holes.gate) (g.G.Gate.reached c.reach.new.self) (g.O.Sink.written c.args.sink.now) now later c.holes-test.true c.hole-item.is
    (parts_exist v (drop (suc i) holes)) c.holes.invariant.wrote c.in_err-send_part.ensures.begun c.reach.ensures
    (subst (λ (n : ℕ). (p : LatePart) × PartShows v hole p × AddsFront now later (part_text n p)) c.holes.invariant.number c.in_err-send_part.ensures.front))

pub holes-preserved : goal.holes-preserved
holes-preserved g c =
    let r = reader_of c.args.state.now c.args.ask.now c.args.now in
    let v = visit r in
    let i = c.holes.hole-index in
    let hole = c.hole-item.result in
    let now = g.O.Sink.written c.holes.sink in
    let later = g.O.Sink.written c.send_part.new.sink in
    record {
      moves = moves_on c.holes.invariant.moves c.in_ok-send_part.ensures.moves;
      stays = stays_on c.holes.invariant.stays c.in_ok-send_part.ensures.stays;
      wrote = writes_more r c.args.holes.now i hole (g.H.House.sees c.args.house.now) (g.H.House.sees c.holes.house) (g.H.House.sees c.send_part.new.house) (g.G.Gate.reached c.args.gate.now) (g.G.Gate.reached c.holes.gate) (g.G.Gate.reached c.reach.new.self) (g.O.Sink.written c.args.sink.now) now later c.holes-test.true c.hole-item.is c.holes.invariant.wrote c.in_ok-send_part.ensures.made c.reach.ensures
          (subst (λ (n : ℕ). (p : LatePart) × PartShows v hole p × (later ≡ after now (part_text n p))) c.holes.invariant.number c.in_ok-send_part.ensures.whole);
      faults = c.in_ok-send_part.ensures.steady ∙ c.holes.invariant.faults;
      number = ap (λ (n : ℕ). n + 1) c.holes.invariant.number;
    }
