-- What a page shows, as plans of reads.
-- https://www.drupal.org/docs/drupal-apis/render-api/render-arrays
use Rattle.std.specs.Prelude.{ℕ, Bool, List, [], length, ◌==◌, Option, Some, None, if◌then◌else◌}
use Rattle.cacheability.specs.declared.op.Op.TheVariants as op
use Rattle.access_result.specs.declared.reason.Reason.{Reason}
use Rattle.access_result.specs.Reason.{reason_text}
use Rattle.content_rows.specs.declared.row.Site.{Site}
use Rattle.content_rows.specs.declared.row.Node.{Node}
use Rattle.content_rows.specs.declared.row.Term.{Term}
use Rattle.content_rows.specs.declared.row.User.{User}
use Rattle.content_rows.specs.declared.row.Listing.{Listing}
use Rattle.content_rows.specs.declared.row.Region.TheVariants as at
use Rattle.content_state.specs.declared.route.Route.{Route}
use Rattle.content_state.specs.declared.route.Route.TheVariants as route
use Rattle.content_state.specs.declared.element.Hole.TheVariants as hole
use Rattle.content_state.specs.declared.element.Fragment.TheVariants as fragment
use Rattle.content_state.specs.declared.element.Mode.TheVariants as mode
use Rattle.content_state.specs.declared.element.Placing.TheVariants as placing
use Rattle.content_state.specs.declared.element.Library.TheVariants as library
use Rattle.content_state.specs.Entities.{is_json}
use Rattle.content_state.specs.Read.{SiteRow, NodeRow, TermRow, UserRow, ListingRow, PathRoute}
use Rattle.content_state.specs.Viewer.{access_content}
use Rattle.content_state.specs.Plan.{Plan, Done, write, escaped, attach, part, reading, ◌>>=◌, ◌>>◌}
use Rattle.site_access.specs.Access.{Access, Allowed, Denied}
use Rattle.site_access.specs.Plans.{holds, node_access}
use Rattle.site_access.specs.Terms.{term_access}
use Rattle.site_access.specs.Users.{user_access}
use Rattle.site_access.specs.Routes.{listing_access}
use Rattle.site_dates.specs.Dates.{date_text_of}
use Rattle.render_array.specs.Blocks.{region}
use Rattle.render_array.specs.Json.{json_not_found, json_page}
use Rattle.render_array.specs.Pieces as pieces

abbrev pub site_name : Option Site → List ℕ
site_name None = []
site_name (Some site) = site.name

-- a page down to its heading
unfoldable pub page_top : List ℕ → Plan (Unit {0})
page_top title = do
  site ← reading SiteRow
  write pieces.page_start
  escaped title
  write pieces.title_between
  escaped (site_name site)
  write pieces.title_end
  part hole.Meta
  write pieces.header_start
  region at.Header
  write pieces.header_end
  escaped title
  write pieces.heading_end

-- a page below its content
unfoldable pub page_bottom : Plan (Unit {0})
page_bottom = do
  write pieces.main_end
  region at.Aside
  write pieces.aside_end
  region at.Footer
  write pieces.page_end

-- a page of a status, with a title and what stands below it
unfoldable pub framed : ℕ → List ℕ → Plan (Unit {0}) → Plan ℕ
framed status title content = do
  page_top title
  content
  page_bottom
  Done status

-- why access is denied
unfoldable pub denied_content : Reason → Plan (Unit {0})
denied_content reason = do
  write pieces.denied_start
  escaped (reason_text reason)
  write pieces.denied_end

unfoldable pub denied : Reason → Plan ℕ
denied reason = framed 403 pieces.denied_title (denied_content reason)

unfoldable pub not_found : Plan ℕ
not_found = framed 404 pieces.not_found_title (write pieces.not_found_content)

-- ---- the page of what a path leads to, where it is there and may be viewed

abbrev pub node_answer : ℕ → Node → Access → Plan ℕ
node_answer n node Allowed = framed 200 node.title (part (hole.Fragment (fragment.Node n mode.Full)))
node_answer n node (Denied reason) = denied reason

abbrev pub node_found : ℕ → Option Node → Plan ℕ
node_found n None = not_found
node_found n (Some node) = node_access op.View n >>= node_answer n node

-- a node stands on its page in full
unfoldable pub node_page : ℕ → Plan ℕ
node_page n = reading (NodeRow n) >>= node_found n

unfoldable pub described : List ℕ → Plan (Unit {0})
described text = if length text == 0 then Done tt else (do
  write pieces.paragraph_start
  escaped text
  write pieces.paragraph_end)

unfoldable pub term_content : ℕ → Term → Plan (Unit {0})
term_content t term = do
  described term.description
  allowed ← holds access_content
  if allowed then part (hole.Fragment (fragment.TermListing t)) else Done tt

abbrev pub term_answer : ℕ → Term → Access → Plan ℕ
term_answer t term Allowed = framed 200 term.name (term_content t term)
term_answer t term (Denied reason) = denied reason

abbrev pub term_found : ℕ → Option Term → Plan ℕ
term_found t None = not_found
term_found t (Some term) = term_access t >>= term_answer t term

-- on a term's page stand what it means, and its nodes for a viewer who may access content
unfoldable pub term_page : ℕ → Plan ℕ
term_page t = reading (TermRow t) >>= term_found t

unfoldable pub member_since : ℕ → Plan (Unit {0})
member_since moment = do
  write pieces.member_start
  write (date_text_of moment)
  write pieces.paragraph_end

abbrev pub user_answer : User → Access → Plan ℕ
user_answer user Allowed = framed 200 user.name (member_since user.created)
user_answer user (Denied reason) = denied reason

abbrev pub user_found : ℕ → Option User → Plan ℕ
user_found u None = not_found
user_found u (Some user) = user_access u >>= user_answer user

-- on a user's profile stands since when there is such a user
unfoldable pub user_page : ℕ → Plan ℕ
user_page u = reading (UserRow u) >>= user_found u

abbrev pub listing_answer : List ℕ → Listing → Access → Plan ℕ
listing_answer name listing Allowed = framed 200 listing.title (part (hole.Fragment (fragment.Listing name placing.OnPage)))
listing_answer name listing (Denied reason) = denied reason

abbrev pub listing_found : List ℕ → Option Listing → Plan ℕ
listing_found name None = not_found
listing_found name (Some listing) = listing_access >>= listing_answer name listing

unfoldable pub listing_page : List ℕ → Plan ℕ
listing_page name = reading (ListingRow name) >>= listing_found name

unfoldable pub login_content : Plan (Unit {0})
login_content = do
  attach library.Login
  write pieces.login_form

unfoldable pub login_page : Plan ℕ
login_page = framed 200 pieces.login_title login_content

-- what isn't found is told as JSON or shown as HTML
unfoldable pub nothing_found : Bool → Plan ℕ
nothing_found json = if json then json_not_found else not_found

-- what stands at a path of JSON or at another one, by where the path leads
abbrev pub page_at : Bool → Route → Plan ℕ
page_at json (route.Node n) = node_page n
page_at json (route.Term t) = term_page t
page_at json (route.User u) = user_page u
page_at json (route.Listing name) = listing_page name
page_at json (route.Json it) = json_page it
page_at json route.Login = login_page
page_at json route.Nothing = nothing_found json

-- the page of a path, which gives its status: HTML, or JSON where the path is one of JSON
unfoldable pub page : List ℕ → Plan ℕ
page path = reading (PathRoute path) >>= page_at (is_json path)
