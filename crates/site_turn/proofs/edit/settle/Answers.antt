use Rattle.site_turn.proofs.Desks.{some_there}
use Rattle.site_turn.proofs.Settling.{is_one, turns, at_settled, hands_settled, engine_settled}
use Rattle.site_turn.proofs.edit.settle.Goals as goal

pub settle-requires-clause-one : goal.settle-requires-clause-one
settle-requires-clause-one g c =
    let out = c.take_hall-hall in
    is_one c.args.seat.now.me _ out.result c.args.desk.now c.requires.at out.ensures.taken out.ensures.agrees (some_there _ c.requires.pending)

pub follow_back-requires-clause-out : goal.follow_back-requires-clause-out
follow_back-requires-clause-out g c =
    let out = c.take_hall-hall in
    let new = c.settle in
    turns c.args.seat.now.me _ out.result c.args.desk.now c.requires.at out.ensures.taken out.ensures.agrees (some_there _ c.requires.pending) c.args.kept c.requires.exactly new.new.self new.new.desk new.ensures.settled new.ensures.desk _ c.grown_by.ensures

pub returns-clause-at : goal.returns-clause-at
returns-clause-at g c =
    let out = c.take_hall-hall in
    let new = c.settle in
    at_settled c.args.seat.now.me _ out.result c.args.desk.now c.requires.at out.ensures.taken out.ensures.agrees (some_there _ c.requires.pending) c.args.kept c.requires.exactly new.new.self new.new.desk new.ensures.settled new.ensures.desk new.ensures.is_hall _ c.follow_back.ensures.back c.follow_back.ensures.knows

pub returns-clause-settled : goal.returns-clause-settled
returns-clause-settled g c =
    let out = c.take_hall-hall in
    let new = c.settle in
    engine_settled c.args.seat.now.me _ out.result c.args.desk.now c.requires.at out.ensures.taken out.ensures.agrees (some_there _ c.requires.pending) c.args.kept c.requires.exactly new.new.self new.new.desk new.ensures.settled new.ensures.desk new.ensures.is_hall _ c.follow_back.ensures.back c.follow_back.ensures.knows

pub returns-clause-hands : goal.returns-clause-hands
returns-clause-hands g c =
    let out = c.take_hall-hall in
    let new = c.settle in
    hands_settled c.args.seat.now.me _ out.result c.args.desk.now c.requires.at out.ensures.taken out.ensures.agrees (some_there _ c.requires.pending) c.args.kept c.requires.exactly new.new.self new.new.desk new.ensures.settled new.ensures.desk new.ensures.is_hall _ c.follow_back.ensures.back c.follow_back.ensures.knows
