use Rattle.content_state.specs.Read.{SiteRow}
use Rattle.render_canvas.proofs.Run.{read, retagged}
use Rattle.render_canvas.proofs.canvas.Canvas.site.Goals as goal

pub returns : goal.returns
returns c = read SiteRow _ _ _ (retagged c.site-tag.ensures.tag c.tag.ensures) (rw (← c.self.view_is) c.site-tag.ensures.row)
