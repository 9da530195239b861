use Rattle.sent_objects.proofs.FoundAlike.{gathered_alike}
use Rattle.sent_objects.proofs.pairs.in_order.Goals as goal

pub returns : goal.returns
returns c = gathered_alike c.args.found.items c.sort_by_fronts.new.found.items c.in_ok-sort_by_fronts.ensures c.gathered.result c.gathered.ensures
