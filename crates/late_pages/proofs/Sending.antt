-- What is sent of a page whose parts are sent late.
use Rattle.std.proofs.Common.{ℕ, suc, List, [], ◌∷◌, ◌++◌, ◌≡◌, ◌+◌, refl, sym, ◌∙◌, ap, subst, append_assoc, append-nil, arith, length, false, Option, Some, inr}
use Rattle.content_rows.specs.declared.cell.Cell.{Cell}
use Rattle.content_rows.specs.declared.row.Row.{Row}
use Rattle.content_state.specs.declared.ask.Ask.{Ask}
use Rattle.content_state.specs.declared.element.Hole.{Hole}
use Rattle.content_state.specs.declared.element.Hole.TheVariants as hole
use Rattle.content_state.specs.declared.element.Library.{Library}
use Rattle.content_state.specs.Context.{Visit}
use Rattle.content_state.specs.Entities.{is_json}
use Rattle.content_state.specs.Plan.{Piece, Byte, Place, bytes, Shows}
use Rattle.late_out.specs.Marks.{place_mark, body_end}
use Rattle.page_meaning.specs.Meaning.{framed}
use Rattle.render_array.specs.Shown.{meta_text, visit_of}
use Rattle.late_pages.specs.Late.{LatePart, PartShows, PartsShow, late_places, marked, part_text, templates, LateOf, IsOpened, IsFirst, EndsPage}
use Rattle.late_pages.proofs.PageEnds.{frame_ends}

-- ---- parts, one behind another

pub parts_push : (v : Visit) (holes : List Hole) (h : Hole) (parts : List LatePart) (p : LatePart) → PartsShow v holes parts → PartShows v h p → PartsShow v (holes ++ h ∷ []) (parts ++ p ∷ [])
parts_push v [] h [] p is one = (one, tt)
parts_push v [] h (q ∷ parts) p is one = absurd is
parts_push v (g ∷ holes) h [] p is one = absurd is
parts_push v (g ∷ holes) h (q ∷ parts) p is one = (is.0, parts_push v holes h parts p is.1 one)

pub templates_push : (number : ℕ) (parts : List LatePart) (p : LatePart) → templates number (parts ++ p ∷ []) ≡ templates number parts ++ part_text (number + length parts) p
templates_push number [] p =
    append-nil (part_text number p) ∙ ap (λ n. part_text n p) (omega arith)
templates_push number (q ∷ parts) p =
    ap (λ t. part_text number q ++ t) (templates_push (suc number) parts p)
    ∙ sym (append_assoc (part_text number q) (templates (suc number) parts) (part_text (suc number + length parts) p))
    ∙ ap (λ n. (part_text number q ++ templates (suc number) parts) ++ part_text n p) (omega arith)

-- as many parts as places
pub parts_count : (v : Visit) (holes : List Hole) (parts : List LatePart) → PartsShow v holes parts → length parts ≡ length holes
parts_count v [] [] is = refl
parts_count v [] (p ∷ parts) is = absurd is
parts_count v (h ∷ holes) [] is = absurd is
parts_count v (h ∷ holes) (p ∷ parts) is = ap suc (parts_count v holes parts is.1)

-- ---- the end of the text

pub marked_end : (meta : List ℕ) (number : ℕ) (front : List Piece) (bs : List ℕ) → (before : List ℕ) × (marked meta number (front ++ bytes bs) ≡ before ++ bs)
marked_end meta number [] [] = ([], refl)
marked_end meta number [] (b ∷ bs) = let rest = marked_end meta number [] bs in ([], ap (λ t. b ∷ t) (only_bytes meta number bs))
  where
    only_bytes : (meta : List ℕ) (number : ℕ) (bs : List ℕ) → marked meta number (bytes bs) ≡ bs
    only_bytes meta number [] = refl
    only_bytes meta number (b ∷ bs) = ap (λ t. b ∷ t) (only_bytes meta number bs)
marked_end meta number (Byte b ∷ front) bs =
    let rest = marked_end meta number front bs in
    (b ∷ rest.0, ap (λ t. b ∷ t) rest.1)
marked_end meta number (Place hole.Meta ∷ front) bs =
    let rest = marked_end meta number front bs in
    (meta ++ rest.0, ap (λ t. meta ++ t) rest.1 ∙ sym (append_assoc meta rest.0 bs))
marked_end meta number (Place (hole.Fragment f) ∷ front) bs =
    let rest = marked_end meta (suc number) front bs in
    (place_mark number ++ rest.0, ap (λ t. place_mark number ++ t) rest.1 ∙ sym (append_assoc (place_mark number) rest.0 bs))

-- with marks in its places what is kept of a page ends as a page does
pub marked_ends : (path : List ℕ) (v : Visit) (x : Option ℕ) (shown : List Piece) (libraries : List Library) (meta : List ℕ) → is_json path ≡ false → Shows (framed path) v x shown libraries → EndsPage (marked meta 0 shown)
marked_ends path v x shown libraries meta isnt shows =
    let ends = frame_ends path v x shown libraries shows.needs isnt shows.made in
    let text = marked_end meta 0 ends.0 body_end in
    (text.0, ap (marked meta 0) ends.1 ∙ text.1)

-- ---- what is sent first, and then the parts

module _ (rows : List (Cell × Row)) (ask : Ask) (moment status : ℕ) where
  -- what was marked is all of the text where no place is open, and else all but its end is sent first
  pub first_is : (shown : List Piece) (libraries : List Library) (holes : List Hole) (text : List ℕ) → is_json ask.path ≡ false → Shows (framed ask.path) (visit_of rows ask moment) (Some status) shown libraries
      → holes ≡ late_places shown → (holes ≡ [] → text ≡ marked (meta_text libraries) 0 shown) → ((h : Hole) (others : List Hole) → holes ≡ h ∷ others → marked (meta_text libraries) 0 shown ≡ text ++ body_end)
      → IsFirst rows ask moment status text holes
  first_is shown libraries [] text isnt shows is whole cut =
      let ends = marked_ends ask.path (visit_of rows ask moment) (Some status) shown libraries (meta_text libraries) isnt shows in
      let late : LateOf rows ask moment status text = record {
        shown = shown;
        libraries = libraries;
        parts = [];
        shows = shows;
        each = subst (λ (hs : List Hole). PartsShow (visit_of rows ask moment) hs []) is tt;
        first = ends.0;
        first_is = ends.1;
        text_is = whole refl ∙ ends.1;
      } in
      (inr late, refl)
  first_is shown libraries (h ∷ holes) text isnt shows is whole cut =
      record { shown = shown; libraries = libraries; shows = shows; marked_is = cut h holes refl; places = sym is }

  -- what was sent first, then a template for each part, and what ends the page
  pub opened_sent : (holes : List Hole) (first : List ℕ) (parts : List LatePart) → IsOpened rows ask moment status first holes → PartsShow (visit_of rows ask moment) holes parts
      → LateOf rows ask moment status (first ++ (templates 0 parts ++ body_end))
  opened_sent holes first parts opened each = record {
    shown = opened.shown;
    libraries = opened.libraries;
    parts = parts;
    shows = opened.shows;
    each = subst (λ (hs : List Hole). PartsShow (visit_of rows ask moment) hs parts) (sym opened.places) each;
    first = first;
    first_is = opened.marked_is;
    text_is = refl;
  }
