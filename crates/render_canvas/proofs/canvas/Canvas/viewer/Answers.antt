use Rattle.std.proofs.Common.{refl}
use Rattle.cacheability.specs.declared.context.Context.TheVariants as context
use Rattle.render_canvas.proofs.Run.{asked}
use Rattle.render_canvas.proofs.canvas.Canvas.viewer.Goals as goal

pub returns : goal.returns
returns c = asked context.User _ _ _ c.context.ensures (rw (← c.self.view_is) refl)
