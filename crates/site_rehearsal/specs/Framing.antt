-- The page of a path as it is kept for whoever views it, under way and done.
use Rattle.std.specs.Prelude.{ℕ, List, [], ◌++◌, ◌≡◌, ◌≤◌, Bool, false, Option, if◌then◌else◌}
use Rattle.cacheability.specs.declared.cacheability.Cacheability.{Cacheability}
use Rattle.content_state.specs.State.{State}
use Rattle.content_state.specs.declared.element.Fragment.{Fragment}
use Rattle.content_state.specs.declared.element.Fragment.TheVariants as fragment
use Rattle.content_state.specs.declared.element.Hole.{Hole}
use Rattle.content_state.specs.declared.element.Hole.TheVariants as hole
use Rattle.content_state.specs.declared.element.Library.{Library}
use Rattle.content_state.specs.Context.{Visit}
use Rattle.content_state.specs.Met.{result_of}
use Rattle.content_state.specs.Plan.{Plan}
use Rattle.content_state.specs.Places.{Filling, Fills, SameMembers, MakesWhole}
use Rattle.page_meaning.specs.Lazy.{is_lazy, TellsOn}
use Rattle.page_meaning.specs.Meaning.{for_everybody}
use Rattle.render_canvas.specs.Board.{pieces_of}
use Rattle.render_array.specs.declared.element.Element.TheVariants as element
use Rattle.render_array.specs.Whole.{shown_below, count_below, element_level}
use Rattle.renderer.specs.declared.filled.Filled.{Filled}
use Rattle.renderer.specs.Filled.{needs_of}

-- the plan makes what was put together, libraries by membership, and it may be shown at the visit's moment
pub record Makes (p : Plan (Option ℕ)) (v : Visit) (f : Filled) : Type 0 where
  pub makes : MakesWhole p v f.status (pieces_of f.segments) f.libraries.items (needs_of f)
  pub not_over : v.moment ≤ f.last

-- what stands in the places of a page that is kept for whoever views it
abbrev pub in_frame : Filling
in_frame = for_everybody (shown_below (element_level element.Page))

-- whether the place of a fragment stays open there, on a visit
abbrev pub stays_open : Visit → Fragment → Bool
stays_open v (fragment.Block name) = result_of (is_lazy name) v
stays_open v (fragment.Menu name) = false
stays_open v (fragment.Listing name where_placed) = false
stays_open v (fragment.TermListing t) = false
stays_open v (fragment.Node n mode) = false

-- how many elements are built for a place
abbrev pub count_in_frame : Visit → Hole → ℕ
count_in_frame v hole.Meta = 0
count_in_frame v (hole.Fragment f) = if stays_open v f then 0 else count_below (element_level element.Page) v (hole.Fragment f)

-- whether a fragment's place stays open there on a state, and what tells it
abbrev pub TellsOpen : State → Fragment → Cacheability → Bool → Cacheability → Type 0
TellsOpen state (fragment.Block name) old left new = TellsOn state (is_lazy name) old left new
TellsOpen state (fragment.Menu name) old left new = (left ≡ false) × (new ≡ old)
TellsOpen state (fragment.Listing name where_placed) old left new = (left ≡ false) × (new ≡ old)
TellsOpen state (fragment.TermListing t) old left new = (left ≡ false) × (new ≡ old)
TellsOpen state (fragment.Node n mode) old left new = (left ≡ false) × (new ≡ old)

-- the whole page shows the frame, its places filled in, and attaches its libraries and theirs
pub record FillsFrame (v : Visit) (frame page : Filled) : Type 0 where
  pub attached : List Library
  pub libraries : SameMembers page.libraries.items (frame.libraries.items ++ attached)
  pub fills : Fills (shown_below (element_level element.Page)) v (needs_of page) (pieces_of frame.segments) (pieces_of page.segments) attached

-- what was put together so far, with nothing shown yet
pub record Begins (from new : Filled) : Type 0 where
  pub segments : new.segments ≡ []
  pub libraries : new.libraries.items ≡ from.libraries.items
  pub cacheability : new.cacheability ≡ from.cacheability
  pub last : new.last ≡ from.last
  pub status : new.status ≡ from.status
