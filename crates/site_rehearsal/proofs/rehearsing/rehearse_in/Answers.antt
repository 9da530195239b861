use Rattle.site_rehearsal.proofs.Counted.{counted_from}
use Rattle.site_rehearsal.proofs.rehearsing.rehearse_in.Goals as goal

pub returns-in-Ok-clause-counted : goal.returns-in-Ok-clause-counted
returns-in-Ok-clause-counted c = counted_from c.args.rooms c.args.base c.in_ok-hall.hall c.args.turns.now c.in-Ok.replies.items c.in_ok-hall.ensures.opened c.in-Ok.ensures
