use Rattle.render_array.specs.Listings.{term_listing_shown}
use Rattle.render_array.proofs.listings.term_listing_shown.Goals as goal

pub returns : goal.returns
unfolding term_listing_shown
returns c = rw (← c.term_listing-listing.ensures) c.listing_view.ensures
