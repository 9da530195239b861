use Rattle.content_state.specs.Read.{TermRow}
use Rattle.render_canvas.proofs.Run.{read, retagged}
use Rattle.render_canvas.proofs.canvas.Canvas.term.Goals as goal

pub returns-clause-shows : goal.returns-clause-shows
returns-clause-shows c = read (TermRow c.args.tid) _ _ _ (retagged c.term-tag.ensures.tag c.tag.ensures) (rw (← c.self.view_is) c.term-tag.ensures.row)

pub returns-clause-there : goal.returns-clause-there
returns-clause-there c = rw (← c.self.view_is) c.term-tag.ensures.row
