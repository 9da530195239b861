-- What is shown of what is kept.
-- https://www.drupal.org/docs/drupal-apis/cache-api/cache-api
use Rattle.std.specs.Prelude.{ℕ, List, [], ◌≡◌, Bool, Option, None, option_map, if◌then◌else◌}
use Rattle.content_state.specs.declared.ask.Ask.{Ask}
use Rattle.content_state.specs.declared.element.Fragment.{Fragment}
use Rattle.content_state.specs.declared.element.Fragment.TheVariants as fragment
use Rattle.content_state.specs.declared.element.Hole.{Hole}
use Rattle.content_state.specs.declared.element.Hole.TheVariants as hole
use Rattle.content_state.specs.declared.element.Library.{Library}
use Rattle.content_state.specs.Ask.{IsAsk, path_of}
use Rattle.content_state.specs.Context.{Visit}
use Rattle.content_state.specs.Plan.{Plan, Done, Piece, Needs, Made, part, ◌>>=◌, ◌>>◌}
use Rattle.content_state.specs.Places.{Filling, filled_in}
use Rattle.cache_entries.specs.declared.key.Subject.TheVariants as subject
use Rattle.cache_entries.specs.Entries.{Meaning}
use Rattle.render_array.specs.declared.element.Element.TheVariants as element
use Rattle.render_array.specs.Built.{plan_of}
use Rattle.render_array.specs.Whole.{shown_below, element_level, whole}
use Rattle.render_array.specs.Shown.{OnlyMeta}
use Rattle.page_meaning.specs.Lazy.{is_lazy}

-- the place of a fragment where it is lazy, and else what stands there
abbrev pub open_if : Bool → Fragment → Plan (Option ℕ) → Plan (Option ℕ)
open_if lazy f shown = if lazy then part (hole.Fragment f) >> Done None else shown

-- What stands in the place of a fragment in the page that is kept for whoever views it: lazy blocks are left open, and nothing else
-- is for one viewer or for one moment alone.
abbrev pub in_frame : Fragment → Plan (Option ℕ) → Plan (Option ℕ)
in_frame (fragment.Block name) shown = is_lazy name >>= λ lazy. open_if lazy (fragment.Block name) shown
in_frame (fragment.Menu name) shown = shown
in_frame (fragment.Listing name where_placed) shown = shown
in_frame (fragment.TermListing t) shown = shown
in_frame (fragment.Node n mode) shown = shown

-- what stands in the places of the page that is kept for whoever views it; the libraries are listed when all else stands
abbrev pub for_everybody : Filling → Filling
for_everybody fill hole.Meta = None
for_everybody fill (hole.Fragment f) = option_map (in_frame f) (fill (hole.Fragment f))

-- the page of a path as it is kept for whoever views it
abbrev pub framed : List ℕ → Plan (Option ℕ)
framed path = filled_in (for_everybody (shown_below (element_level element.Page))) (plan_of path element.Page)

-- What is kept shows this: a fragment itself, its places filled in; the page of a path all that is for everybody; and that of a
-- target the whole page of its path.
abbrev pub meaning : Meaning
meaning (subject.Fragment f) = whole [] (element.Fragment f)
meaning (subject.Page path) = framed path
meaning (subject.Target target) = whole (path_of target) element.Page

-- what is kept of a fragment is the whole fragment, whatever path is asked for
abbrev pub FragmentsAreWhole : Type 0
FragmentsAreWhole = (path : List ℕ) (f : Fragment) → meaning (subject.Fragment f) ≡ whole path (element.Fragment f)

-- what is kept of a target that is asked for is the whole page of the path that is asked for
abbrev pub TargetsAreWhole : Type 0
TargetsAreWhole = (ask : Ask) → IsAsk ask → meaning (subject.Target ask.target) ≡ whole ask.path element.Page

-- what is kept of the page of a path makes the whole page, once what is left open there is filled in
abbrev pub FramesAreFilled : Type 0
FramesAreFilled =
    (path : List ℕ) (v : Visit) (status : Option ℕ) (shown : List Piece) (libraries : List Library) (needs : Needs)
    → Made (filled_in (shown_below (element_level element.Page)) (framed path)) v status shown libraries needs
    → Made (whole path element.Page) v status shown libraries needs

-- no place of a whole page stays open but that of the libraries
abbrev pub PagesAreClosed : Type 0
PagesAreClosed =
    (path : List ℕ) (v : Visit) (status : Option ℕ) (shown : List Piece) (libraries : List Library) (needs : Needs)
    → Made (whole path element.Page) v status shown libraries needs → OnlyMeta shown
