use Rattle.std.proofs.Common.{arith}
use Rattle.site_access.specs.Routes.{access_to_route, route_access, route_depends}
use Rattle.site_access.proofs.RoutePlans.{route_read}
use Rattle.content_state.specs.Context.{Visit}
use Rattle.render_canvas.proofs.Taken.{noted}
use Rattle.render_canvas.proofs.canvas.Canvas.route_access.Goals as goal

pub returns-in-Ok : goal.returns-in-Ok
returns-in-Ok c =
    let rows = c.self.inside.state.now.rows in
    let viewer = c.self.inside.account.now.viewer in
    let v : Visit = record { rows = rows; viewer = viewer; ask = c.self.inside.ask.now; moment = c.self.inside.moment } in
    rw (← c.self.view_is)
    (noted v c.self.inside.board c.self.inside.libraries.items c.self.inside.last c.self.inside.whole (grind arith) (route_access c.args.to.now) c.self.inside.cacheability _
    (route_depends rows viewer c.args.to.now) (access_to_route rows viewer c.args.to.now) _ (route_read c.args.to.now v) c.in-Ok.ensures.answer c.in-Ok.ensures.depends)
