use Rattle.render_array.specs.Page.{page_top}
use Rattle.render_array.specs.Pieces as pieces
use Rattle.render_canvas.proofs.Run.{next, next_escaped}
use Rattle.render_array.proofs.pages.page_top.Goals as goal

pub returns : goal.returns
unfolding page_top pieces.page_start pieces.title_between pieces.title_end pieces.header_start pieces.header_end pieces.heading_end
returns c =
    next _ c.site-site.ensures (next _ c.write.ensures (next _ c.escaped.ensures (next _ c.write-2.ensures
    (next_escaped _ _ _ c.escaped-2.ensures c.name_of.ensures (next _ c.write-3.ensures (next _ c.open.ensures
    (next _ c.write-4.ensures (next _ c.region.ensures (next _ c.write-5.ensures (next _ c.escaped-3.ensures c.write-6.ensures))))))))))
