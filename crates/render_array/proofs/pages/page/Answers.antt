use Rattle.render_array.specs.Page.{nothing_found, page}
use Rattle.render_array.proofs.Lists.{over}
use Rattle.render_canvas.proofs.Run.{next}
use Rattle.render_array.proofs.pages.page.Goals as goal

pub returns-in-Node : goal.returns-in-Node
unfolding page
returns-in-Node c = next _ c.in-Node.ensures.shows c.node_page.ensures

pub returns-in-Term : goal.returns-in-Term
unfolding page
returns-in-Term c = next _ c.in-Term.ensures.shows c.term_page.ensures

pub returns-in-User : goal.returns-in-User
unfolding page
returns-in-User c = next _ c.in-User.ensures.shows c.user_page.ensures

pub returns-in-Listing : goal.returns-in-Listing
unfolding page
returns-in-Listing c = next _ c.in-Listing.ensures.shows c.listing_page.ensures

pub returns-in-Json : goal.returns-in-Json
unfolding page
returns-in-Json c = next _ c.in-Json.ensures.shows c.json_page.ensures

pub returns-in-Login : goal.returns-in-Login
unfolding page
returns-in-Login c = next _ c.in-Login.ensures.shows c.login_page.ensures

pub returns-in-Nothing : goal.returns-in-Nothing
unfolding page
returns-in-Nothing c = next _ c.in-Nothing.ensures.shows (over nothing_found c.nothing_found.ensures c.is_json.ensures)
