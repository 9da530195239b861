use Rattle.sent_objects.proofs.Ordered.{object_in_order}
use Rattle.sent_objects.proofs.object.SentObject.brief.Goals as goal

pub returns-clause-order : goal.returns-clause-order
returns-clause-order c = object_in_order c.args.self.now
