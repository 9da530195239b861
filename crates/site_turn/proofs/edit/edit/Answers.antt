use Rattle.std.proofs.Common.{sym, subst}
use Rattle.std.specs.Option.{option_copied}
use Rattle.site_keeper.specs.declared.fault.KeeperFault.{KeeperFault}
use Rattle.site_hall.specs.Ready.{LeavesReady}
use Rattle.site_turn.specs.Edits.{engine_at, HandsIn, handed_by, IsEdited}
use Rattle.site_turn.proofs.Outcomes.{asked_for, edit_done, edit_failed}
use Rattle.site_turn.proofs.edit.edit.Goals as goal

pub keep_edit-requires-clause-asked : goal.keep_edit-requires-clause-asked
keep_edit-requires-clause-asked g c =
    asked_for c.args.ask.now (option_copied c.args.csrf) c.args.command.now c.args.now c.args.pass (engine_at c.prepare.new.seat.me c.prepare.new.desk) c.in-Ok.ready c.in-Ok.ensures.ready.is_ready

pub returns-in-Ok-keep_edit-clause-edited : goal.returns-in-Ok-keep_edit-clause-edited
returns-in-Ok-keep_edit-clause-edited g c =
    subst (λ a. IsEdited a c.args.seat.now.me c.keep_edit.new.seat.me c.args.desk.now c.keep_edit.new.desk c.args.ask.now (option_copied c.args.csrf) c.args.command.now c.args.now c.args.pass) (sym c.done_of-done.ensures)
    (edit_done c.args.ask.now (option_copied c.args.csrf) c.args.command.now c.args.now c.args.pass c.args.seat.now.me c.prepare.new.seat.me c.keep_edit.new.seat.me c.args.desk.now c.prepare.new.desk c.keep_edit.new.desk c.in-Ok.ready c.prepare.ensures.hands c.in-Ok.ensures.ready
    c.in-Ok-keep_edit.ensures.published c.in-Ok-keep_edit.ensures.hands)

pub returns-in-Err-Failed-clause-edited : goal.returns-in-Err-Failed-clause-edited
returns-in-Err-Failed-clause-edited g c =
    let f = c.in-Err-Failed in
    edit_failed c.args.ask.now (option_copied c.args.csrf) c.args.command.now c.args.now c.args.pass c.args.seat.now.me c.prepare.new.seat.me c.keep_edit.new.seat.me c.args.desk.now c.prepare.new.desk c.keep_edit.new.desk c.in-Ok.ready c.prepare.ensures.hands c.in-Ok.ensures.ready
    (subst (λ (fault : KeeperFault). LeavesReady fault (engine_at c.prepare.new.seat.me c.prepare.new.desk) c.in-Ok.ready.batch (engine_at c.keep_edit.new.seat.me c.keep_edit.new.desk)) f.field-0-is f.ensures.leaves)
    (subst (λ (fault : KeeperFault). HandsIn (handed_by fault c.in-Ok.ready.batch.commit) c.prepare.new.seat.me c.keep_edit.new.seat.me) f.field-0-is f.ensures.refused)
