use Rattle.std.proofs.Common.{arith}
use Rattle.site_access.specs.Access.{access_to_node}
use Rattle.site_access.specs.Plans.{node_access}
use Rattle.site_access.specs.Depends.{node_depends}
use Rattle.site_access.proofs.PlansDecide.{node_read}
use Rattle.content_state.specs.Context.{Visit}
use Rattle.render_canvas.proofs.Taken.{noted}
use Rattle.render_canvas.proofs.canvas.Canvas.node_access.Goals as goal

pub returns-in-Ok : goal.returns-in-Ok
returns-in-Ok c =
    let rows = c.self.inside.state.now.rows in
    let viewer = c.self.inside.account.now.viewer in
    let v : Visit = record { rows = rows; viewer = viewer; ask = c.self.inside.ask.now; moment = c.self.inside.moment } in
    rw (← c.self.view_is)
    (noted v c.self.inside.board c.self.inside.libraries.items c.self.inside.last c.self.inside.whole (grind arith) (node_access c.args.op c.args.n) c.self.inside.cacheability _
    (node_depends rows viewer c.args.op c.args.n) (access_to_node rows viewer c.args.op c.args.n) _ (node_read c.args.op c.args.n v) c.in-Ok.ensures.answer c.in-Ok.ensures.depends)
