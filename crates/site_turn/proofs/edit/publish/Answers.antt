use Rattle.std.proofs.Common.{true, refl}
use Rattle.site_turn.proofs.Desks.{some_there}
use Rattle.site_turn.proofs.Settling.{is_one, turns, at_settled, hands_settled, engine_settled}
use Rattle.site_turn.proofs.edit.publish.Goals as goal

pub publish-requires-clause-one : goal.publish-requires-clause-one
publish-requires-clause-one g c =
    let out = c.take_hall-hall in
    is_one c.args.seat.now.me _ out.result c.args.desk.now c.requires.at out.ensures.taken out.ensures.agrees (some_there _ c.requires.pending)

pub follow_back-requires-clause-out : goal.follow_back-requires-clause-out
follow_back-requires-clause-out g c =
    let out = c.take_hall-hall in
    let new = c.publish in
    turns c.args.seat.now.me _ out.result c.args.desk.now c.requires.at out.ensures.taken out.ensures.agrees (some_there _ c.requires.pending) true c.requires.kept new.new.self new.new.desk new.ensures.published new.ensures.desk _ refl

pub returns-clause-at : goal.returns-clause-at
returns-clause-at g c =
    let out = c.take_hall-hall in
    let new = c.publish in
    at_settled c.args.seat.now.me _ out.result c.args.desk.now c.requires.at out.ensures.taken out.ensures.agrees (some_there _ c.requires.pending) true c.requires.kept new.new.self new.new.desk new.ensures.published new.ensures.desk new.ensures.is_hall _ c.follow_back.ensures.back c.follow_back.ensures.knows

pub returns-clause-published : goal.returns-clause-published
returns-clause-published g c =
    let out = c.take_hall-hall in
    let new = c.publish in
    engine_settled c.args.seat.now.me _ out.result c.args.desk.now c.requires.at out.ensures.taken out.ensures.agrees (some_there _ c.requires.pending) true c.requires.kept new.new.self new.new.desk new.ensures.published new.ensures.desk new.ensures.is_hall _ c.follow_back.ensures.back c.follow_back.ensures.knows

pub returns-clause-hands : goal.returns-clause-hands
returns-clause-hands g c =
    let out = c.take_hall-hall in
    let new = c.publish in
    hands_settled c.args.seat.now.me _ out.result c.args.desk.now c.requires.at out.ensures.taken out.ensures.agrees (some_there _ c.requires.pending) true c.requires.kept new.new.self new.new.desk new.ensures.published new.ensures.desk new.ensures.is_hall _ c.follow_back.ensures.back c.follow_back.ensures.knows
