use Rattle.content_state.specs.Read.{MenuRow}
use Rattle.render_canvas.proofs.Run.{read, retagged}
use Rattle.render_canvas.proofs.canvas.Canvas.menu.Goals as goal

pub returns-clause-shows : goal.returns-clause-shows
returns-clause-shows c = read (MenuRow c.args.name) _ _ _ (retagged c.menu-tag.ensures.tag c.tag.ensures) (rw (← c.self.view_is) c.menu-tag.ensures.row)

pub returns-clause-there : goal.returns-clause-there
returns-clause-there c = rw (← c.self.view_is) c.menu-tag.ensures.row
