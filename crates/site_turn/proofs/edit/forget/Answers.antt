use Rattle.site_turn.proofs.Settling.{is_one, forgets, at_left, hands_left, engine_left}
use Rattle.site_turn.proofs.edit.forget.Goals as goal

pub settle-requires-clause-one : goal.settle-requires-clause-one
settle-requires-clause-one g c =
    let out = c.take_hall-hall in
    let last = c.requires.last in
    is_one c.args.seat.now.me _ out.result c.args.desk.now c.requires.at out.ensures.taken out.ensures.agrees (last.1, last.2)

pub forget_back-requires-clause-out : goal.forget_back-requires-clause-out
forget_back-requires-clause-out g c =
    let out = c.take_hall-hall in
    let last = c.requires.last in
    let new = c.settle in
    forgets c.args.seat.now.me _ out.result c.args.desk.now c.requires.at out.ensures.taken out.ensures.agrees (last.1, last.2) last.0 last.3 last.4 c.requires.exactly new.new.self new.new.desk new.ensures.settled new.ensures.desk

pub returns-clause-at : goal.returns-clause-at
returns-clause-at g c =
    let out = c.take_hall-hall in
    let last = c.requires.last in
    let new = c.settle in
    at_left c.args.seat.now.me _ out.result c.args.desk.now c.requires.at out.ensures.taken out.ensures.agrees (last.1, last.2) last.0 last.3 last.4 c.requires.exactly new.new.self new.new.desk new.ensures.settled new.ensures.desk new.ensures.is_hall _ c.forget_back.ensures.back c.forget_back.ensures.knows

pub returns-clause-forgotten : goal.returns-clause-forgotten
returns-clause-forgotten g c =
    let out = c.take_hall-hall in
    let last = c.requires.last in
    let new = c.settle in
    engine_left c.args.seat.now.me _ out.result c.args.desk.now c.requires.at out.ensures.taken out.ensures.agrees (last.1, last.2) last.0 last.3 last.4 c.requires.exactly new.new.self new.new.desk new.ensures.settled new.ensures.desk new.ensures.is_hall _ c.forget_back.ensures.back c.forget_back.ensures.knows

pub returns-clause-hands : goal.returns-clause-hands
returns-clause-hands g c =
    let out = c.take_hall-hall in
    let last = c.requires.last in
    let new = c.settle in
    hands_left c.args.seat.now.me _ out.result c.args.desk.now c.requires.at out.ensures.taken out.ensures.agrees (last.1, last.2) last.0 last.3 last.4 c.requires.exactly new.new.self new.new.desk new.ensures.settled new.ensures.desk new.ensures.is_hall _ c.forget_back.ensures.back c.forget_back.ensures.knows
