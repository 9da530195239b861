use Rattle.content_state.specs.Read.{CommentRow}
use Rattle.render_canvas.proofs.Run.{read, retagged}
use Rattle.render_canvas.proofs.canvas.Canvas.comment.Goals as goal

pub returns : goal.returns
returns c = read (CommentRow c.args.cid) _ _ _ (retagged c.comment-tag.ensures.tag c.tag.ensures) (rw (← c.self.view_is) c.comment-tag.ensures.row)
