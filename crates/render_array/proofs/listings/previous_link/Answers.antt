use Rattle.std.proofs.Common.{ap}
use Rattle.std.specs.Fmt.{decimal}
use Rattle.render_array.specs.Listings.{previous_link}
use Rattle.render_array.specs.Pieces as pieces
use Rattle.render_canvas.proofs.Run.{next, next_write, done, if_true, if_false}
use Rattle.render_array.proofs.listings.previous_link.Goals as goal

pub returns-else-not-page : goal.returns-else-not-page
unfolding previous_link
returns-else-not-page c = if_true _ c.if-not-page.false done

pub returns-then-not-page : goal.returns-then-not-page
unfolding previous_link pieces.page_link_start pieces.previous_end
returns-then-not-page c =
    if_false _ c.if-not-page.true (next _ c.write.ensures
    (next_write _ _ _ c.number.ensures (ap decimal c.saturating_sub.ensures) c.write-then-not-page.ensures))
