-- A state may be sent to another thread, and read by several. The search finds this by itself only where little else stands in
-- its way: the tree of a router is recursive, and what holds a recursive type has no rule of its own. So a crate above answers
-- such a goal by `search (sendable, crosses, state_send, state_sync) depth 30`, as `states_go_between_threads` does here.
use denote.Param.Send.{IsSend, IsSync, sendable}
use Rattle.std.proofs.Crossing.{crosses}
use Rattle.matchit.proofs.route.Route.TheSendSync as routes_go
use Rattle.matchit.proofs.tree.Node.TheLaws.TheKnot.{send-Node, sync-Node}
use Rattle.tag_counts.proofs.Counts.TheSendSync as counts_go
use Rattle.content_state.proofs.forms.Form.TheSendSync as form_goes
use Rattle.indexed_rows.proofs.indexed.IndexedRows.TheSendSync as rows_go
use Rattle.content_state.specs.contracts.forms.Forms as forms
use Rattle.content_state.specs.contracts.state.State as state

forms_send : IsSend forms.the_row
forms_send = search (sendable, crosses, send-Node, routes_go.the_send, form_goes.the_send) depth 30

forms_sync : IsSync forms.the_row
forms_sync = search (sendable, crosses, sync-Node, routes_go.the_sync, form_goes.the_sync) depth 30

pub state_send : IsSend state.the_row
state_send = search (sendable, crosses, forms_send, forms_sync, rows_go.the_send, counts_go.the_send) depth 30

pub state_sync : IsSync state.the_row
state_sync = search (sendable, crosses, forms_send, forms_sync, rows_go.the_sync, counts_go.the_sync) depth 30
