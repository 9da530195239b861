use Rattle.content_state.specs.Read.{UserRow}
use Rattle.render_canvas.proofs.Run.{read, retagged}
use Rattle.render_canvas.proofs.canvas.Canvas.user.Goals as goal

pub returns-clause-shows : goal.returns-clause-shows
returns-clause-shows c = read (UserRow c.args.uid) _ _ _ (retagged c.user-tag.ensures.tag c.tag.ensures) (rw (← c.self.view_is) c.user-tag.ensures.row)

pub returns-clause-there : goal.returns-clause-there
returns-clause-there c = rw (← c.self.view_is) c.user-tag.ensures.row
