use Rattle.content_state.specs.Read.{CommentsOf}
use Rattle.render_canvas.proofs.Run.{read}
use Rattle.render_canvas.proofs.canvas.Canvas.comments_on.Goals as goal

pub returns-in-Ok : goal.returns-in-Ok
returns-in-Ok c = read (CommentsOf c.args.n) _ _ _ c.tag.ensures (rw (← c.self.view_is) c.in-Ok.ensures)
