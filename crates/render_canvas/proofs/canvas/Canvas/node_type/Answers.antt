use Rattle.content_state.specs.Read.{TypeRow}
use Rattle.render_canvas.proofs.Run.{read, retagged}
use Rattle.render_canvas.proofs.canvas.Canvas.node_type.Goals as goal

pub returns-clause-shows : goal.returns-clause-shows
returns-clause-shows c = read (TypeRow c.args.name) _ _ _ (retagged c.node_type-tag.ensures.tag c.tag.ensures) (rw (← c.self.view_is) c.node_type-tag.ensures.row)

pub returns-clause-there : goal.returns-clause-there
returns-clause-there c = rw (← c.self.view_is) c.node_type-tag.ensures.row
