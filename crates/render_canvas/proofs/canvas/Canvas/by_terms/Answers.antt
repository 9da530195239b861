use Rattle.render_canvas.proofs.Noted.{no_term, some_term}
use Rattle.render_canvas.proofs.canvas.Canvas.by_terms.Goals as goal

pub returns-in-Some : goal.returns-in-Some
returns-in-Some c = some_term _ c.in-Some.is c.tag.ensures

pub returns-in-None : goal.returns-in-None
returns-in-None c = no_term _ c.in-None.is
