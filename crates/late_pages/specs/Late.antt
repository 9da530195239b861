-- The page of a request whose parts are sent late: first the page as it is kept for whoever views it, with a mark in each place that
-- it leaves open, up to its end; then, in the order of these places, each part in a template; and then what ends the page.
-- https://www.drupal.org/docs/8/core/modules/big-pipe/overview
use Rattle.std.specs.Prelude.{ℕ, suc, List, [], ◌∷◌, ◌++◌, ◌≡◌, ◌⊎◌, length, true, Option, Some, None, if◌then◌else◌}
use Rattle.std.specs.List.{flat_map, list_any}
use Rattle.std.proofs.Common.{inl, inr}
use Rattle.content_rows.specs.declared.cell.Cell.{Cell}
use Rattle.content_rows.specs.declared.row.Row.{Row}
use Rattle.content_state.specs.declared.ask.Ask.{Ask}
use Rattle.content_state.specs.declared.element.Fragment.{Fragment}
use Rattle.content_state.specs.declared.element.Hole.{Hole}
use Rattle.content_state.specs.declared.element.Hole.TheVariants as hole
use Rattle.content_state.specs.declared.element.Library.{Library}
use Rattle.content_state.specs.Context.{Visit}
use Rattle.content_state.specs.Entities.{is_json}
use Rattle.content_state.specs.Places.{SameMembers}
use Rattle.content_state.specs.Plan.{Piece, Byte, Place, bytes, Shows}
use Rattle.content_state.specs.Viewer.{viewer_of}
use Rattle.late_out.specs.Marks.{place_mark, template_text, body_end}
use Rattle.page_meaning.specs.Meaning.{framed}
use Rattle.render_array.specs.declared.element.Element.TheVariants as element
use Rattle.render_array.specs.Shown.{library_name, all_libraries, same_library, meta_text, visit_of, IsPage}
use Rattle.render_array.specs.Whole.{whole}

-- ---- parts

-- a part that is sent late: the libraries that it attaches, and its text
pub record LatePart : Type 0 where
  pub libraries : List Library
  pub text : List ℕ

-- the name of a library, where it was attached
abbrev pub name_if : List Library → Library → List (List ℕ)
name_if attached l = if list_any (same_library l) attached then library_name l ∷ [] else []

-- the names of the libraries that were attached, each once, in order
abbrev pub names_of : List Library → List (List ℕ)
names_of attached = flat_map (name_if attached) all_libraries

-- a part in its template, by its number, and parts one after the other, numbered from the first one's
abbrev pub part_text : ℕ → LatePart → List ℕ
part_text number p = template_text number (names_of p.libraries) p.text

abbrev pub templates : ℕ → List LatePart → List ℕ
templates number [] = []
templates number (p ∷ parts) = part_text number p ++ templates (suc number) parts

-- On a visit the fragment shows this text, with no place left open, and attaches these libraries, in some order.
pub record FragmentShows (v : Visit) (f : Fragment) (p : LatePart) : Type 0 where
  pub status : Option ℕ
  pub attached : List Library
  pub shows : Shows (whole [] (element.Fragment f)) v status (bytes p.text) attached
  pub same : SameMembers attached p.libraries

-- in the place of the libraries stands no part
pub record IsNoPart (p : LatePart) : Type 0 where
  pub text : p.text ≡ []
  pub libraries : p.libraries ≡ []

-- the part of a place
abbrev pub PartShows : Visit → Hole → LatePart → Type 0
PartShows v hole.Meta p = IsNoPart p
PartShows v (hole.Fragment f) p = FragmentShows v f p

-- one part for each place, in their order
abbrev pub PartsShow : Visit → List Hole → List LatePart → Type 0
PartsShow v [] [] = Unit {0}
PartsShow v [] (p ∷ parts) = ⊥
PartsShow v (h ∷ holes) [] = ⊥
PartsShow v (h ∷ holes) (p ∷ parts) = PartShows v h p × PartsShow v holes parts

-- ---- places

-- the places of parts that are open among pieces, in their order; that of the libraries is none of them
abbrev pub late_places : List Piece → List Hole
late_places [] = []
late_places (Byte b ∷ shown) = late_places shown
late_places (Place hole.Meta ∷ shown) = late_places shown
late_places (Place (hole.Fragment f) ∷ shown) = hole.Fragment f ∷ late_places shown

-- the text of pieces, with the lines of the libraries at their place and a mark in each other one, numbered from the first one's
abbrev pub marked : List ℕ → ℕ → List Piece → List ℕ
marked meta number [] = []
marked meta number (Byte b ∷ shown) = b ∷ marked meta number shown
marked meta number (Place hole.Meta ∷ shown) = meta ++ marked meta number shown
marked meta number (Place (hole.Fragment f) ∷ shown) = place_mark number ++ marked meta (suc number) shown

-- the text of pieces, with the lines of the libraries at their place and a part in each other one
abbrev pub put_in : List ℕ → List Piece → List LatePart → List ℕ
put_in meta [] parts = []
put_in meta (Byte b ∷ shown) parts = b ∷ put_in meta shown parts
put_in meta (Place hole.Meta ∷ shown) parts = meta ++ put_in meta shown parts
put_in meta (Place (hole.Fragment f) ∷ shown) [] = put_in meta shown []
put_in meta (Place (hole.Fragment f) ∷ shown) (p ∷ parts) = p.text ++ put_in meta shown parts

-- ---- the text of a request

-- The page of what was asked with its parts sent late, on the rows of a state, at a moment: what is kept of the page of the path for
-- whoever views it, as it is shown to the viewer that the cookie names, whose lazy blocks are left open there, with the lines of the
-- libraries that are attached outside of these; the part of each of these; all of one state.
pub record LateOf (rows : List (Cell × Row)) (ask : Ask) (moment status : ℕ) (text : List ℕ) : Type 0 where
  pub shown : List Piece
  pub libraries : List Library
  pub parts : List LatePart
  pub shows : Shows (framed ask.path) (visit_of rows ask moment) (Some status) shown libraries
  pub each : PartsShow (visit_of rows ask moment) (late_places shown) parts
  pub first : List ℕ
  pub first_is : marked (meta_text libraries) 0 shown ≡ first ++ body_end
  pub text_is : text ≡ first ++ (templates 0 parts ++ body_end)

-- the late page with each part put into its place, the templates left out, and the lines of all libraries
abbrev pub libraries_in : List LatePart → List Library
libraries_in parts = flat_map (λ p. p.libraries) parts

abbrev pub body_of : {rows : List (Cell × Row)} {ask : Ask} {moment status : ℕ} {text : List ℕ} → LateOf rows ask moment status text → List ℕ
body_of late = put_in (meta_text (late.libraries ++ libraries_in late.parts)) late.shown late.parts

-- The whole page may be sent at once to nobody's session, for whom it may be kept, and what is told as JSON to whoever asks.
abbrev pub MaySendWhole : List (Cell × Row) → Ask → ℕ → Type 0
MaySendWhole rows ask moment = (is_json ask.path ≡ true) ⊎ ((viewer_of rows ask.cookie moment).session ≡ None)

pub record SentWhole (rows : List (Cell × Row)) (ask : Ask) (moment status : ℕ) (text : List ℕ) : Type 0 where
  pub may : MaySendWhole rows ask moment
  pub page : IsPage rows ask moment status text

-- what is sent to a request that wants parts late: the whole page, where it may be, or the page with its parts late
abbrev pub IsSent : List (Cell × Row) → Ask → ℕ → ℕ → List ℕ → Type 0
IsSent rows ask moment status text = SentWhole rows ask moment status text ⊎ LateOf rows ask moment status text

-- how many parts are sent late
abbrev pub parts_sent : {rows : List (Cell × Row)} {ask : Ask} {moment status : ℕ} {text : List ℕ} → IsSent rows ask moment status text → ℕ
parts_sent (inl whole) = 0
parts_sent (inr late) = length late.parts

-- ---- what is sent first

-- all that stands before the parts; these places are theirs
pub record IsOpened (rows : List (Cell × Row)) (ask : Ask) (moment status : ℕ) (text : List ℕ) (holes : List Hole) : Type 0 where
  pub shown : List Piece
  pub libraries : List Library
  pub shows : Shows (framed ask.path) (visit_of rows ask moment) (Some status) shown libraries
  pub marked_is : marked (meta_text libraries) 0 shown ≡ text ++ body_end
  pub places : late_places shown ≡ holes

-- where no part follows all of the text, else what stands before the parts
abbrev pub IsFirst : List (Cell × Row) → Ask → ℕ → ℕ → List ℕ → List Hole → Type 0
IsFirst rows ask moment status text [] = (sent : IsSent rows ask moment status text) × (parts_sent sent ≡ 0)
IsFirst rows ask moment status text (h ∷ holes) = IsOpened rows ask moment status text (h ∷ holes)

-- a text ends as a page does
abbrev pub EndsPage : List ℕ → Type 0
EndsPage text = (first : List ℕ) × (text ≡ first ++ body_end)
