use Rattle.std.proofs.Common.{sym, subst, false}
use Rattle.site_hall.specs.Sides.{TellsKept, LeavesDesk}
use Rattle.site_turn.proofs.Announcing.{at_kept, at_failed, has_none}
use Rattle.site_turn.proofs.Outcomes.{now_pending, hands_back}
use Rattle.site_turn.proofs.edit.keep_edit.Goals as goal

pub publish-requires-clause-at : goal.publish-requires-clause-at
publish-requires-clause-at g c =
    let made = c.announce.new in
    let one = now_pending c.args.seat.now.me made.seat.me c.args.desk.now made.desk c.args.ready c.requires.none c.requires.asked c.announce.ensures.at c.in-Ok.ensures.announced in
    at_kept made.seat.me made.desk c.announce.ensures.at c.args.ready.batch.commit one c.in-Ok.ensures.kept c.keep.new.self c.in-Ok-keep.ensures.kept c.keep.ensures.never_falls c.keep.ensures.steadfast

pub returns-in-Err-Failed-clause-at : goal.returns-in-Err-Failed-clause-at
returns-in-Err-Failed-clause-at g c =
    let made = c.announce.new in
    let one = now_pending c.args.seat.now.me made.seat.me c.args.desk.now made.desk c.args.ready c.requires.none c.requires.asked c.announce.ensures.at c.in-Ok.ensures.announced in
    at_failed made.seat.me made.desk c.announce.ensures.at c.args.ready.batch.commit one c.in-Ok.ensures.kept c.keep.new.self
    (subst (λ fault. LeavesDesk fault made.desk c.keep.new.self) c.in-Err-Failed.field-0-is c.in-Err-Failed.ensures.leaves) c.keep.ensures.never_falls c.keep.ensures.steadfast

pub forget-requires-clause-exactly : goal.forget-requires-clause-exactly
forget-requires-clause-exactly g c =
    let made = c.announce.new in
    let one = now_pending c.args.seat.now.me made.seat.me c.args.desk.now made.desk c.args.ready c.requires.none c.requires.asked c.announce.ensures.at c.in-Ok.ensures.announced in
    subst (λ desk. TellsKept desk.kept desk.pending false) (sym (subst (λ fault. LeavesDesk fault made.desk c.keep.new.self) c.in-Err-OutOfMemory.field-0-is c.in-Err-OutOfMemory.ensures.leaves))
    (has_none made.seat.me made.desk c.announce.ensures.at c.args.ready.batch.commit one c.in-Ok.ensures.kept)

pub returns-in-Err-OutOfMemory-clause-refused : goal.returns-in-Err-OutOfMemory-clause-refused
returns-in-Err-OutOfMemory-clause-refused g c = hands_back c.args.seat.now.me c.announce.new.seat.me c.forget.new.seat.me c.args.ready.batch.commit c.in-Ok.ensures.hands c.forget.ensures.hands
