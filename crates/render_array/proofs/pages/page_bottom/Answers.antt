use Rattle.render_array.specs.Page.{page_bottom}
use Rattle.render_array.specs.Pieces as pieces
use Rattle.render_canvas.proofs.Run.{next}
use Rattle.render_array.proofs.pages.page_bottom.Goals as goal

pub returns : goal.returns
unfolding page_bottom pieces.main_end pieces.aside_end pieces.page_end
returns c =
    next _ c.write.ensures (next _ c.region.ensures (next _ c.write-2.ensures (next _ c.region-2.ensures c.write-3.ensures)))
