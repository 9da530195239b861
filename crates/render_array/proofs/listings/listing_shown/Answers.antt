use Rattle.render_array.specs.Listings.{listing_shown}
use Rattle.render_canvas.proofs.Run.{next, done}
use Rattle.render_array.proofs.listings.listing_shown.Goals as goal

pub returns-in-Some : goal.returns-in-Some
unfolding listing_shown
returns-in-Some c = next _ c.in-Some.ensures.shows c.listing_view.ensures

pub returns-in_default : goal.returns-in_default
unfolding listing_shown
returns-in_default c = next _ c.in_default.ensures.shows done
