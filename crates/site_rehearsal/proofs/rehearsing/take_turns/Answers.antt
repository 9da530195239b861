use Rattle.site_rehearsal.proofs.Turns.{base_is, none_yet, one_more, all_taken}
use Rattle.site_rehearsal.proofs.rehearsing.take_turns.Goals as goal

pub take_turn-requires-clause-base : goal.take_turn-requires-clause-base
take_turn-requires-clause-base g c =
    base_is c.args.turns.now c.loop-turn.turn-index c.args.hall.now c.loop-turn.replies.items c.loop-turn.hall c.loop-turn.seats _ c.requires.opened c.in_ok-base.ensures c.loop-turn.invariant

pub loop-turn-init : goal.loop-turn-init
loop-turn-init g c = none_yet c.args.turns.now c.args.hall.now _ c.new-seats.result c.len-published.ensures.is_hall c.requires.opened c.new-replies.ensures.items c.new-seats.ensures.empty

pub loop-turn-preserved : goal.loop-turn-preserved
loop-turn-preserved g c =
    rw c.in_ok-push.ensures.items
    (one_more c.args.turns.now c.loop-turn.turn-index c.turn-item.result c.args.hall.now c.loop-turn.replies.items c.in_ok-reply.reply c.loop-turn.hall c.take_turn.new.hall c.loop-turn.seats c.take_turn.new.seats
    c.loop-turn.invariant c.loop-turn-test.true c.turn-item.is c.in_ok-reply.ensures.takes c.in_ok-reply.ensures.stage c.in_ok-reply.ensures.base)

pub returns : goal.returns
returns g c = all_taken c.args.turns.now c.loop-turn.turn-index c.args.hall.now c.loop-turn.replies.items c.loop-turn.hall c.loop-turn.seats c.loop-turn.invariant c.loop-turn-test.false
