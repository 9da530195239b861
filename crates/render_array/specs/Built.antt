-- What building an element gives.
use Rattle.std.specs.Prelude.{ℕ, List, Option, Some, None, ◌≡◌, ◌≤◌}
use Rattle.cacheability.specs.declared.cacheability.Cacheability.{Cacheability}
use Rattle.content_state.specs.declared.element.Fragment.{Fragment}
use Rattle.content_state.specs.declared.element.Fragment.TheVariants as fragment
use Rattle.content_state.specs.Context.{Visit}
use Rattle.content_state.specs.Plan.{Plan, Done, Made, ◌>>=◌, ◌>>◌}
use Rattle.content_state.specs.Met.{met}
use Rattle.content_state.specs.Places.{SameMembers, open_places}
use Rattle.render_canvas.specs.declared.built.Built.{Built}
use Rattle.render_array.specs.declared.element.Element.{Element}
use Rattle.render_array.specs.declared.element.Element.TheVariants as element
use Rattle.render_canvas.specs.Board.{pieces_of}
use Rattle.render_canvas.specs.Finished.{needs_of}
use Rattle.render_array.specs.Nodes.{node_shown}
use Rattle.render_array.specs.Listings.{listing_shown, term_listing_shown}
use Rattle.render_array.specs.Menus.{menu_shown}
use Rattle.render_array.specs.Blocks.{block_shown}
use Rattle.render_array.specs.Page.{page}

-- what a fragment shows, its own fragments left open
abbrev pub fragment_shown : Fragment → Plan (Unit {0})
fragment_shown (fragment.Block name) = block_shown name
fragment_shown (fragment.Menu name) = menu_shown name
fragment_shown (fragment.Listing name where_placed) = listing_shown name where_placed
fragment_shown (fragment.TermListing t) = term_listing_shown t
fragment_shown (fragment.Node n mode) = node_shown n mode

-- what an element shows where this path is asked for, its own fragments left open; a page gives its status
abbrev pub plan_of : List ℕ → Element → Plan (Option ℕ)
plan_of path element.Page = page path >>= λ status. Done (Some status)
plan_of path (element.Fragment f) = fragment_shown f >> Done None

-- the tags, the contexts and the age that are told are exactly those that the plan meets on the visit
pub record TellsExactly (p : Plan (Option ℕ)) (v : Visit) (told : Cacheability) : Type 0 where
  pub tags : SameMembers told.tags (met p v).tags
  pub contexts : SameMembers told.contexts (met p v).contexts
  pub age : told.max_age ≡ (met p v).age

-- The plan of the element makes what was built, which may be shown at the moment of the visit; what it depends on is told
-- exactly, and its open places are those that the plan leaves open.
pub record Builds (p : Plan (Option ℕ)) (v : Visit) (built : Built) : Type 0 where
  pub made : Made p v built.status (pieces_of built.segments) built.libraries (needs_of built)
  pub not_over : v.moment ≤ built.last
  pub exact : TellsExactly p v built.cacheability
  pub places : open_places (pieces_of built.segments) ≡ (met p v).places
