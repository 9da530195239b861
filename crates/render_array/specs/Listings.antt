-- What a listing shows, as plans of reads.
-- https://www.drupal.org/docs/user_guide/en/views-concept.html
use Rattle.std.specs.Prelude.{ℕ, List, length, ◌==◌, ◌+◌, ◌-◌, ◌&&◌, take, drop, Option, Some, None, if◌then◌else◌}
use Rattle.std.specs.Fmt.{decimal}
use Rattle.content_rows.specs.declared.row.Listing.{Listing}
use Rattle.content_state.specs.declared.element.Hole.TheVariants as hole
use Rattle.content_state.specs.declared.element.Fragment.TheVariants as fragment
use Rattle.content_state.specs.declared.element.Mode.TheVariants as mode
use Rattle.content_state.specs.declared.element.Placing.{Placing}
use Rattle.content_state.specs.declared.element.Placing.TheVariants as placing
use Rattle.content_state.specs.declared.element.Library.TheVariants as library
use Rattle.content_state.specs.Read.{ListingRow}
use Rattle.content_state.specs.Plan.{Plan, Done, write, attach, part, reading, each, ◌>>=◌, ◌>>◌}
use Rattle.site_lists.specs.declared.paging.Page.{Page}
use Rattle.site_lists.specs.Listed.{term_listing}
use Rattle.site_lists.specs.ListingPlan.{listing_rows, asked_page}
use Rattle.site_lists.specs.Paging.{page_at}
use Rattle.render_array.specs.Nodes.{may_view_node}
use Rattle.render_canvas.specs.Reads.{by_viewer}
use Rattle.render_array.specs.Pieces as pieces

-- the page that is asked for of a listing on its page; one in a block is at its first
abbrev pub page_number : Placing → Plan ℕ
page_number placing.OnPage = asked_page
page_number placing.InBlock = Done 0

-- a node of a listing
unfoldable pub listed_node : ℕ → Plan (Unit {0})
listed_node n = part (hole.Fragment (fragment.Node n mode.Teaser))

unfoldable pub listed_nodes : List ℕ → Plan (Unit {0})
listed_nodes ids = do
  write pieces.view_start
  each listed_node ids
  write pieces.view_end

unfoldable pub nodes_or_none : List ℕ → Plan (Unit {0})
nodes_or_none ids = if length ids == 0 then write pieces.no_content else listed_nodes ids

-- the links to the pages before and after one
unfoldable pub previous_link : Page → Plan (Unit {0})
previous_link page = if page.is_first then Done tt else (do
  write pieces.page_link_start
  write (decimal (page.number - 1))
  write pieces.previous_end)

unfoldable pub next_link : Page → Plan (Unit {0})
next_link page = if page.is_last then Done tt else (do
  write pieces.page_link_start
  write (decimal (page.number + 1))
  write pieces.next_end)

unfoldable pub pager_shown : Page → Plan (Unit {0})
pager_shown page = do
  attach library.Pager
  write pieces.pager_start
  previous_link page
  next_link page
  write pieces.pager_end

-- where there is more than one page
unfoldable pub pager : Page → Plan (Unit {0})
pager page = if page.is_first && page.is_last then Done tt else pager_shown page

abbrev pub pager_in : Placing → Page → Plan (Unit {0})
pager_in placing.OnPage page = pager page
pager_in placing.InBlock page = Done tt

-- one page of the nodes that a listing has, and where it stands among the others
unfoldable pub page_of_nodes : Placing → List ℕ → Page → Plan (Unit {0})
page_of_nodes where_placed ids page = do
  nodes_or_none (take (page.end - page.start) (drop page.start ids))
  pager_in where_placed page

-- a listing: the nodes that the viewer may view, ten a page
unfoldable pub listing_view : Placing → Listing → Plan (Unit {0})
listing_view where_placed listing = do
  by_viewer
  ids ← listing_rows may_view_node listing
  asked ← page_number where_placed
  page_of_nodes where_placed ids (page_at (length ids) asked)

abbrev pub listing_or_nothing : Placing → Option Listing → Plan (Unit {0})
listing_or_nothing where_placed None = Done tt
listing_or_nothing where_placed (Some listing) = listing_view where_placed listing

unfoldable pub listing_shown : List ℕ → Placing → Plan (Unit {0})
listing_shown name where_placed = reading (ListingRow name) >>= listing_or_nothing where_placed

-- the nodes of a term
unfoldable pub term_listing_shown : ℕ → Plan (Unit {0})
term_listing_shown t = listing_view placing.OnPage (term_listing t)
