use Rattle.render_array.specs.Listings.{pager_shown}
use Rattle.render_array.specs.Pieces as pieces
use Rattle.render_canvas.proofs.Run.{next}
use Rattle.render_array.proofs.listings.pager_shown.Goals as goal

pub returns : goal.returns
unfolding pager_shown pieces.pager_start pieces.pager_end
returns c =
    next _ c.attach.ensures (next _ c.write.ensures (next _ c.previous_link.ensures (next _ c.next_link.ensures c.write-2.ensures)))
