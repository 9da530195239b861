use Rattle.render_array.specs.Page.{listing_page}
use Rattle.render_canvas.proofs.Run.{next}
use Rattle.render_array.proofs.pages.listing_page.Goals as goal

pub returns-in_default : goal.returns-in_default
unfolding listing_page
returns-in_default c = next _ c.in_default.ensures.shows c.not_found.ensures

pub returns-in-Ok : goal.returns-in-Ok
unfolding listing_page
returns-in-Ok c = next _ c.in-Some.ensures.shows (next _ c.in-Ok.ensures c.listing_framed.ensures)

pub returns-in-Err : goal.returns-in-Err
unfolding listing_page
returns-in-Err c = next _ c.in-Some.ensures.shows (next _ c.in-Err.ensures c.denied.ensures)
