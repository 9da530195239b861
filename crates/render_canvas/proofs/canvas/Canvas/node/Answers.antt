use Rattle.content_state.specs.Read.{NodeRow}
use Rattle.render_canvas.proofs.Run.{read, retagged}
use Rattle.render_canvas.proofs.canvas.Canvas.node.Goals as goal

pub returns-clause-shows : goal.returns-clause-shows
returns-clause-shows c = read (NodeRow c.args.n) _ _ _ (retagged c.node-tag.ensures.tag c.tag.ensures) (rw (← c.self.view_is) c.node-tag.ensures.row)

pub returns-clause-there : goal.returns-clause-there
returns-clause-there c = rw (← c.self.view_is) c.node-tag.ensures.row
