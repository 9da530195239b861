use Rattle.std.proofs.Common.{refl, sym}
use Rattle.content_state.specs.Read.{AllBlocks}
use Rattle.render_canvas.specs.Reads.{region_names}
use Rattle.render_canvas.proofs.Run.{next, read, given_by}
use Rattle.render_canvas.proofs.canvas.Canvas.block_names.Goals as goal

pub returns-in-Ok : goal.returns-in-Ok
unfolding region_names
returns-in-Ok c =
    next _ (read AllBlocks _ _ _ c.tag.ensures refl) (given_by (rw (← c.self.view_is) (sym c.in-Ok.ensures)))
