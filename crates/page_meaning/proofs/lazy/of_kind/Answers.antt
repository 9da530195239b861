use Rattle.page_meaning.proofs.lazy.of_kind.Goals as goal

pub returns-in-Listing : goal.returns-in-Listing
returns-in-Listing c = rw c.in-Listing.is c.of_listing.ensures
