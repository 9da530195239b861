use Rattle.site_turn.proofs.Announcing.{none_out, none_here, asked_there, follows_there, announces, keeps, at_announced, hands_announced, engine_announced, kept_just, starves, at_starved, hands_starved, engine_starved}
use Rattle.site_turn.proofs.edit.announce.Goals as goal

pub announce-requires-clause-none : goal.announce-requires-clause-none
announce-requires-clause-none g c =
    let out = c.take_hall-hall in (
      none_out c.args.seat.now.me _ out.result c.args.desk.now c.requires.at out.ensures.taken out.ensures.agrees c.requires.none,
      none_here c.args.seat.now.me _ out.result c.args.desk.now c.requires.at out.ensures.taken out.ensures.agrees c.requires.none,
    )

pub announce-requires-clause-asked : goal.announce-requires-clause-asked
announce-requires-clause-asked g c =
    let out = c.take_hall-hall in
    asked_there c.args.seat.now.me _ out.result c.args.desk.now c.requires.at out.ensures.taken out.ensures.agrees c.requires.none c.args.ready c.requires.asked

pub follow_back-requires-clause-out : goal.follow_back-requires-clause-out
follow_back-requires-clause-out g c =
    let out = c.take_hall-hall in
    announces c.args.seat.now.me _ out.result c.args.desk.now c.requires.at out.ensures.taken out.ensures.agrees c.requires.none c.args.ready c.requires.own c.announce.new.self c.announce.new.desk c.in-Ok.ensures.announced c.in-Ok.ensures.desk

pub returns-in-Ok-clause-at : goal.returns-in-Ok-clause-at
returns-in-Ok-clause-at g c =
    let out = c.take_hall-hall in
    at_announced c.args.seat.now.me _ out.result c.args.desk.now c.requires.at out.ensures.taken out.ensures.agrees c.requires.none c.args.ready c.requires.own c.announce.new.self c.announce.new.desk c.in-Ok.ensures.announced c.in-Ok.ensures.desk c.announce.ensures.is_hall _ c.follow_back.ensures.back c.follow_back.ensures.knows

pub returns-in-Ok-clause-announced : goal.returns-in-Ok-clause-announced
returns-in-Ok-clause-announced g c =
    let out = c.take_hall-hall in
    engine_announced c.args.seat.now.me _ out.result c.args.desk.now c.requires.at out.ensures.taken out.ensures.agrees c.requires.none c.args.ready c.requires.own c.announce.new.self c.announce.new.desk c.in-Ok.ensures.announced c.in-Ok.ensures.desk c.announce.ensures.is_hall _ c.follow_back.ensures.back c.follow_back.ensures.knows

pub returns-in-Ok-clause-hands : goal.returns-in-Ok-clause-hands
returns-in-Ok-clause-hands g c =
    let out = c.take_hall-hall in
    hands_announced c.args.seat.now.me _ out.result c.args.desk.now c.requires.at out.ensures.taken out.ensures.agrees c.requires.none c.args.ready c.requires.own c.announce.new.self c.announce.new.desk c.in-Ok.ensures.announced c.in-Ok.ensures.desk c.announce.ensures.is_hall _ c.follow_back.ensures.back c.follow_back.ensures.knows

pub returns-in-Ok-clause-may_keep : goal.returns-in-Ok-clause-may_keep
returns-in-Ok-clause-may_keep g c =
    let out = c.take_hall-hall in
    keeps c.args.seat.now.me _ out.result c.args.desk.now c.requires.at out.ensures.taken out.ensures.agrees c.requires.none c.args.ready c.requires.own c.announce.new.self c.announce.new.desk c.in-Ok.ensures.announced c.in-Ok.ensures.desk
    (follows_there c.args.seat.now.me _ out.result c.args.desk.now c.requires.at out.ensures.taken out.ensures.agrees c.requires.none c.args.ready c.requires.asked)

pub returns-in-Ok-clause-kept : goal.returns-in-Ok-clause-kept
returns-in-Ok-clause-kept g c =
    let out = c.take_hall-hall in
    kept_just c.args.seat.now.me _ out.result c.args.desk.now c.requires.at out.ensures.taken out.ensures.agrees c.requires.none c.args.ready c.requires.own c.announce.new.self c.announce.new.desk c.in-Ok.ensures.announced c.in-Ok.ensures.desk c.announce.ensures.is_hall _ c.follow_back.ensures.back c.follow_back.ensures.knows

pub follow_back-requires-in-Err-clause-out : goal.follow_back-requires-in-Err-clause-out
follow_back-requires-in-Err-clause-out g c =
    let out = c.take_hall-hall in
    starves c.args.seat.now.me _ out.result c.args.desk.now c.requires.at out.ensures.taken out.ensures.agrees c.requires.none c.announce.new.self c.announce.new.desk c.in-Err.ensures.same.0 c.in-Err.ensures.same.1

pub returns-in-Err-clause-at : goal.returns-in-Err-clause-at
returns-in-Err-clause-at g c =
    let out = c.take_hall-hall in
    at_starved c.args.seat.now.me _ out.result c.args.desk.now c.requires.at out.ensures.taken out.ensures.agrees c.requires.none c.announce.new.self c.announce.new.desk c.in-Err.ensures.same.0 c.in-Err.ensures.same.1 c.announce.ensures.is_hall _ c.follow_back-in-Err.ensures.back c.follow_back-in-Err.ensures.knows

pub returns-in-Err-clause-stays : goal.returns-in-Err-clause-stays
returns-in-Err-clause-stays g c =
    let out = c.take_hall-hall in
    engine_starved c.args.seat.now.me _ out.result c.args.desk.now c.requires.at out.ensures.taken out.ensures.agrees c.requires.none c.announce.new.self c.announce.new.desk c.in-Err.ensures.same.0 c.in-Err.ensures.same.1 c.announce.ensures.is_hall _ c.follow_back-in-Err.ensures.back c.follow_back-in-Err.ensures.knows

pub returns-in-Err-clause-nothing : goal.returns-in-Err-clause-nothing
returns-in-Err-clause-nothing g c =
    let out = c.take_hall-hall in
    hands_starved c.args.seat.now.me _ out.result c.args.desk.now c.requires.at out.ensures.taken out.ensures.agrees c.requires.none c.announce.new.self c.announce.new.desk c.in-Err.ensures.same.0 c.in-Err.ensures.same.1 c.announce.ensures.is_hall _ c.follow_back-in-Err.ensures.back c.follow_back-in-Err.ensures.knows
