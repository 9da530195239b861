use Rattle.std.proofs.Common.{arith}
use Rattle.site_access.specs.Terms.{access_to_term, term_access, term_depends}
use Rattle.site_access.proofs.RoutePlans.{term_read}
use Rattle.content_state.specs.Context.{Visit}
use Rattle.render_canvas.proofs.Taken.{noted}
use Rattle.render_canvas.proofs.canvas.Canvas.term_access.Goals as goal

pub returns-in-Ok : goal.returns-in-Ok
returns-in-Ok c =
    let rows = c.self.inside.state.now.rows in
    let viewer = c.self.inside.account.now.viewer in
    let v : Visit = record { rows = rows; viewer = viewer; ask = c.self.inside.ask.now; moment = c.self.inside.moment } in
    rw (← c.self.view_is)
    (noted v c.self.inside.board c.self.inside.libraries.items c.self.inside.last c.self.inside.whole (grind arith) (term_access c.args.tid) c.self.inside.cacheability _
    (term_depends c.args.tid) (access_to_term rows viewer c.args.tid) _ (term_read c.args.tid v) c.in-Ok.ensures.answer c.in-Ok.ensures.depends)
