use Rattle.std.proofs.Common.{arith}
use Rattle.site_access.specs.Users.{access_to_user, user_access, user_depends}
use Rattle.site_access.proofs.RoutePlans.{user_read}
use Rattle.content_state.specs.Context.{Visit}
use Rattle.render_canvas.proofs.Taken.{noted}
use Rattle.render_canvas.proofs.canvas.Canvas.user_access.Goals as goal

pub returns-in-Ok : goal.returns-in-Ok
returns-in-Ok c =
    let rows = c.self.inside.state.now.rows in
    let viewer = c.self.inside.account.now.viewer in
    let v : Visit = record { rows = rows; viewer = viewer; ask = c.self.inside.ask.now; moment = c.self.inside.moment } in
    rw (← c.self.view_is)
    (noted v c.self.inside.board c.self.inside.libraries.items c.self.inside.last c.self.inside.whole (grind arith) (user_access c.args.uid) c.self.inside.cacheability _
    (user_depends rows viewer c.args.uid) (access_to_user rows viewer c.args.uid) _ (user_read c.args.uid v) c.in-Ok.ensures.answer c.in-Ok.ensures.depends)
