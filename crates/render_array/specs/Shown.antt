-- The page of a request: its status and its body on a state.
use Rattle.std.specs.Prelude.{ℕ, List, [], ◌∷◌, ◌++◌, ◌≡◌, ◌==◌, ◌||◌, codes, if◌then◌else◌, Bool, Option, Some, None, IsTrue}
use Rattle.std.specs.List.{flat_map, list_any}
use Rattle.content_rows.specs.declared.cell.Cell.{Cell}
use Rattle.content_rows.specs.declared.row.Row.{Row}
use Rattle.content_state.specs.declared.ask.Ask.{Ask}
use Rattle.content_state.specs.declared.element.Hole.TheVariants.{Meta, Fragment}
use Rattle.content_state.specs.declared.element.Library.{Library}
use Rattle.content_state.specs.declared.element.Library.TheVariants as library
use Rattle.content_state.specs.Viewer.{viewer_of}
use Rattle.content_state.specs.Context.{Visit}
use Rattle.content_state.specs.Plan.{Piece, Byte, Place, Shows}
use Rattle.render_array.specs.Pieces.{meta_start, meta_end}
use Rattle.render_array.specs.declared.element.Element.TheVariants as element
use Rattle.render_array.specs.Whole.{whole, element_count}

-- the name of a library
unfoldable pub library_name : Library → List ℕ
library_name library.Clock = codes "clock"
library_name library.Comment = codes "comment"
library_name library.Login = codes "login"
library_name library.Menu = codes "menu"
library_name library.Node = codes "node"
library_name library.Pager = codes "pager"

-- the libraries, in the order of their names
abbrev pub all_libraries : List Library
all_libraries = library.Clock ∷ library.Comment ∷ library.Login ∷ library.Menu ∷ library.Node ∷ library.Pager ∷ []

-- the place of a library in that order
abbrev pub place_of : Library → ℕ
place_of library.Clock = 0
place_of library.Comment = 1
place_of library.Login = 2
place_of library.Menu = 3
place_of library.Node = 4
place_of library.Pager = 5

abbrev pub same_library : Library → Library → Bool
same_library a b = place_of a == place_of b

abbrev pub meta_line : Library → List ℕ
meta_line l = meta_start ++ library_name l ++ meta_end

-- the line of a library, where it was attached
abbrev pub meta_if : List Library → Library → List ℕ
meta_if attached l = if list_any (same_library l) attached then meta_line l else []

-- META: a line for each library that was attached, once, in the order of their names
unfoldable pub meta_text : List Library → List ℕ
meta_text attached = flat_map (meta_if attached) all_libraries

-- no place is open but that of the libraries
abbrev pub OnlyMeta : List Piece → Type 0
OnlyMeta [] = Unit {0}
OnlyMeta (Byte b ∷ shown) = OnlyMeta shown
OnlyMeta (Place Meta ∷ shown) = OnlyMeta shown
OnlyMeta (Place (Fragment f) ∷ shown) = ⊥

-- what is shown, with the lines of the libraries at their place, is this text; no other place is left open
abbrev pub IsFilled : List ℕ → List Piece → List ℕ → Type 0
IsFilled meta [] text = text ≡ []
IsFilled meta (Byte b ∷ shown) text = (rest : List ℕ) × (text ≡ b ∷ rest) × IsFilled meta shown rest
IsFilled meta (Place Meta ∷ shown) text = (rest : List ℕ) × (text ≡ meta ++ rest) × IsFilled meta shown rest
IsFilled meta (Place (Fragment f) ∷ shown) text = ⊥

-- a visit of the viewer that the request's cookie names
abbrev pub visit_of : List (Cell × Row) → Ask → ℕ → Visit
visit_of rows ask moment = record { rows = rows; viewer = viewer_of rows ask.cookie moment; ask = ask; moment = moment }

-- the statuses of pages: it is there, it may not be viewed, it is not found
abbrev pub is_page_status : ℕ → Bool
is_page_status status = status == 200 || status == 403 || status == 404

-- what is a page has one of them
abbrev pub IsPageStatus : Option ℕ → Type 0
IsPageStatus None = ⊥
IsPageStatus (Some status) = IsTrue (is_page_status status)

-- The page of a request on the rows of a state, at a moment: the plan of its path, what stands in its places filled in,
-- gives the status, and shows the body to the viewer that its cookie names.
pub record IsPage (rows : List (Cell × Row)) (ask : Ask) (moment status : ℕ) (body : List ℕ) : Type 0 where
  pub shown : List Piece
  pub libraries : List Library
  pub shows : Shows (whole ask.path element.Page) (visit_of rows ask moment) (Some status) shown libraries
  pub filled : IsFilled (meta_text libraries) shown body

-- how many elements the page of a request has: itself, and each that stands in one of its places, at any depth
abbrev pub page_count : List (Cell × Row) → Ask → ℕ → ℕ
page_count rows ask moment = element_count ask.path (visit_of rows ask moment) element.Page
