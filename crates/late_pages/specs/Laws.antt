-- Laws of pages whose parts are sent late.
use Rattle.std.specs.Prelude.{ℕ, List, [], ◌∷◌, ◌≡◌, Option, if◌then◌else◌}
use Rattle.std.specs.List.{flat_map}
use Rattle.content_rows.specs.declared.cell.Cell.{Cell}
use Rattle.content_rows.specs.declared.row.Row.{Row}
use Rattle.content_state.specs.declared.ask.Ask.{Ask}
use Rattle.content_state.specs.declared.element.Hole.{Hole}
use Rattle.content_state.specs.declared.element.Hole.TheVariants as hole
use Rattle.content_state.specs.declared.element.Library.{Library}
use Rattle.content_state.specs.Context.{Visit}
use Rattle.content_state.specs.Met.{met}
use Rattle.content_state.specs.Plan.{Piece, Needs, Made}
use Rattle.kept_pages.specs.Needed.{stays_lazy}
use Rattle.page_meaning.specs.Meaning.{framed}
use Rattle.render_array.specs.declared.element.Element.TheVariants as element
use Rattle.render_array.specs.Built.{plan_of}
use Rattle.render_array.specs.Shown.{IsPage}
use Rattle.late_pages.specs.Late.{LatePart, PartsShow, late_places, LateOf, body_of}

-- with its parts put into their places it is the page that is sent at once
abbrev pub LateIsPage : Type 0
LateIsPage =
    (rows : List (Cell × Row)) (ask : Ask) (moment status : ℕ) (text : List ℕ) (late : LateOf rows ask moment status text)
    → IsPage rows ask moment status (body_of late)

-- each place has a part on each visit, whether that was made or not
abbrev pub EveryPartShows : Type 0
EveryPartShows = (v : Visit) (holes : List Hole) → (parts : List LatePart) × PartsShow v holes parts

-- a place that stays open on a visit, or none
abbrev pub lazy_place : Visit → Hole → List Hole
lazy_place v hole.Meta = []
lazy_place v (hole.Fragment f) = if stays_lazy v f then hole.Fragment f ∷ [] else []

-- On each visit the parts that are sent late are just those of the lazy blocks that stand on the page, in their order: whether a block
-- is lazy is told by the state of the visit, wherever what is kept of the page was made.
abbrev pub PlacesAreLazy : Type 0
PlacesAreLazy =
    (path : List ℕ) (v : Visit) (status : Option ℕ) (shown : List Piece) (libraries : List Library) (needs : Needs)
    → Made (framed path) v status shown libraries needs → late_places shown ≡ flat_map (lazy_place v) (met (plan_of path element.Page) v).places
