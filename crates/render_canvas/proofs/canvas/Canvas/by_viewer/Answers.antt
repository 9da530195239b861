use Rattle.std.proofs.Common.{refl}
use Rattle.cacheability.specs.declared.context.Context.TheVariants as context
use Rattle.render_canvas.specs.Reads.{by_viewer}
use Rattle.render_canvas.proofs.Run.{next, done, asked}
use Rattle.render_canvas.proofs.canvas.Canvas.by_viewer.Goals as goal

pub returns : goal.returns
unfolding by_viewer
returns c =
    next _ (asked context.UserPermissions _ _ _ c.context.ensures refl)
    (next _ (asked context.NodeGrantsView _ _ _ c.context-2.ensures refl) done)
