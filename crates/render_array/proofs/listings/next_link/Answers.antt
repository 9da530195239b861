use Rattle.render_array.specs.Listings.{next_link}
use Rattle.render_array.specs.Pieces as pieces
use Rattle.render_canvas.proofs.Run.{next, done, if_true, if_false}
use Rattle.render_array.proofs.listings.next_link.Goals as goal

pub returns-else-not-page : goal.returns-else-not-page
unfolding next_link
returns-else-not-page c = if_true _ c.if-not-page.false done

pub returns-then-not-page : goal.returns-then-not-page
unfolding next_link pieces.page_link_start pieces.next_end
returns-then-not-page c = if_false _ c.if-not-page.true (next _ c.write.ensures (next _ c.number.ensures c.write-then-not-page.ensures))
