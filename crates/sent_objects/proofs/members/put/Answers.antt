use Rattle.serde_json.proofs.Views.{members_view-insert_entry}
use Rattle.sent_objects.proofs.members.put.Goals as goal

pub returns : goal.returns
returns c = rw c.in_ok-insert.ensures.entries (members_view-insert_entry c.args.found.now.entries c.args.key c.args.value)
