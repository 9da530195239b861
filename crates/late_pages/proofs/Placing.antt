-- Parts that are put into the places of what is kept of a page make the whole page.
use Rattle.std.proofs.Common.{ℕ, List, [], ◌∷◌, ◌++◌, ◌≤◌, min, refl, sym, subst, arith, Option, Some, inl, inr}
use Rattle.content_state.specs.declared.element.Fragment.{Fragment}
use Rattle.content_state.specs.declared.element.Hole.{Hole}
use Rattle.content_state.specs.declared.element.Hole.TheVariants as hole
use Rattle.content_state.specs.declared.element.Library.{Library}
use Rattle.content_state.specs.Context.{Visit}
use Rattle.content_state.specs.Places.{SameMembers, IsFilledWith, FillsPlace, Fills, MakesWhole}
use Rattle.content_state.specs.Plan.{Piece, Byte, Place, bytes, Plan, Needs, Made, Shows}
use Rattle.content_state.proofs.Filled.{in_append, in_left, in_right, same_refl, same_trans, same_after, filled}
use Rattle.page_meaning.specs.Meaning.{framed}
use Rattle.page_meaning.proofs.Frames.{page_filled, stands}
use Rattle.render_array.specs.declared.element.Element.TheVariants as element
use Rattle.render_array.specs.Shown.{meta_text, IsFilled, IsPageStatus, visit_of}
use Rattle.render_array.specs.Whole.{shown_below, whole}
use Rattle.render_array.proofs.Statuses.{page_status}
use Rattle.render_canvas.specs.Canvas.{Keeps}
use Rattle.render_canvas.proofs.Run.{Keeps-refl, Keeps-trans, Made-kept}
use Rattle.renderer.proofs.Texts.{same_meta}
use Rattle.late_pages.specs.Late.{LatePart, FragmentShows, PartShows, PartsShow, late_places, put_in, libraries_in, body_of}
use Rattle.late_pages.specs.Laws.{LateIsPage}
use Rattle.late_pages.proofs.Exist.{parts_exist}

-- ---- what all parts depend on

-- what the one and the other depend on
abbrev both_needs : Needs → Needs → Needs
both_needs a b = record { tags = a.tags ++ b.tags; contexts = a.contexts ++ b.contexts; last = min a.last b.last }

keeps_first : (a b : Needs) → Keeps a (both_needs a b)
keeps_first a b = record { tags = λ t h. in_left a.tags b.tags t h; contexts = λ c h. in_left a.contexts b.contexts c h; last = omega arith }

keeps_second : (a b : Needs) → Keeps b (both_needs a b)
keeps_second a b = record { tags = λ t h. in_right a.tags b.tags t h; contexts = λ c h. in_right a.contexts b.contexts c h; last = omega arith }

abbrev KeptAt : (v : Visit) (h : Hole) (p : LatePart) → PartShows v h p → Needs → Type 0
KeptAt v hole.Meta p is needs = Unit {0}
KeptAt v (hole.Fragment f) p is needs = Keeps is.shows.needs needs

abbrev AllKept : (v : Visit) (holes : List Hole) (parts : List LatePart) → PartsShow v holes parts → Needs → Type 0
AllKept v [] [] is needs = Unit {0}
AllKept v [] (p ∷ parts) is needs = Unit {0}
AllKept v (h ∷ holes) [] is needs = Unit {0}
AllKept v (h ∷ holes) (p ∷ parts) is needs = KeptAt v h p is.0 needs × AllKept v holes parts is.1 needs

kept_still : (v : Visit) (h : Hole) (p : LatePart) (is : PartShows v h p) (a b : Needs) → Keeps a b → KeptAt v h p is a → KeptAt v h p is b
kept_still v hole.Meta p is a b more kept = tt
kept_still v (hole.Fragment f) p is a b more kept = Keeps-trans is.shows.needs a b kept more

all_still : (v : Visit) (holes : List Hole) (parts : List LatePart) (is : PartsShow v holes parts) (a b : Needs) → Keeps a b → AllKept v holes parts is a → AllKept v holes parts is b
all_still v [] [] is a b more kept = tt
all_still v [] (p ∷ parts) is a b more kept = tt
all_still v (h ∷ holes) [] is a b more kept = tt
all_still v (h ∷ holes) (p ∷ parts) is a b more kept = (kept_still v h p is.0 a b more kept.0, all_still v holes parts is.1 a b more kept.1)

-- these and those of all parts
record Enough (v : Visit) (holes : List Hole) (parts : List LatePart) (is : PartsShow v holes parts) (first : Needs) : Type 0 where
  needs : Needs
  keeps : Keeps first needs
  not_over : v.moment ≤ needs.last
  all : AllKept v holes parts is needs

enough_with : (v : Visit) (h : Hole) (p : LatePart) (one : PartShows v h p) (holes : List Hole) (parts : List LatePart) (is : PartsShow v holes parts) (first : Needs) → Enough v holes parts is first → Enough v (h ∷ holes) (p ∷ parts) (one, is) first
enough_with v hole.Meta p one holes parts is first e = record { needs = e.needs; keeps = e.keeps; not_over = e.not_over; all = (tt, e.all) }
enough_with v (hole.Fragment f) p one holes parts is first e = record {
  needs = both_needs one.shows.needs e.needs;
  keeps = Keeps-trans first e.needs (both_needs one.shows.needs e.needs) e.keeps (keeps_second one.shows.needs e.needs);
  not_over = (let a = one.shows.not_over in let b = e.not_over in omega arith);
  all = (keeps_first one.shows.needs e.needs, all_still v holes parts is e.needs (both_needs one.shows.needs e.needs) (keeps_second one.shows.needs e.needs) e.all);
}

enough : (v : Visit) (holes : List Hole) (parts : List LatePart) (is : PartsShow v holes parts) (first : Needs) → v.moment ≤ first.last → Enough v holes parts is first
enough v [] [] is first not_over = record { needs = first; keeps = Keeps-refl first; not_over = not_over; all = tt }
enough v [] (p ∷ parts) is first not_over = absurd is
enough v (h ∷ holes) [] is first not_over = absurd is
enough v (h ∷ holes) (p ∷ parts) is first not_over = enough_with v h p is.0 holes parts is.1 first (enough v holes parts is.1 first not_over)

-- ---- the pieces with the parts in their places

abbrev full : List Piece → List LatePart → List Piece
full [] parts = []
full (Byte b ∷ shown) parts = Byte b ∷ full shown parts
full (Place hole.Meta ∷ shown) parts = Place hole.Meta ∷ full shown parts
full (Place (hole.Fragment f) ∷ shown) [] = full shown []
full (Place (hole.Fragment f) ∷ shown) (p ∷ parts) = bytes p.text ++ full shown parts

same_both : {A : Type 0} (a b c d : List A) → SameMembers a b → SameMembers c d → SameMembers (a ++ c) (b ++ d)
same_both a b c d one other = record {
  there = λ x h. elim (in_append a c x h) [ inl g ↦ in_left b d x (one.there x g) | inr g ↦ in_right b d x (other.there x g) ];
  back = λ x h. elim (in_append b d x h) [ inl g ↦ in_left a c x (one.back x g) | inr g ↦ in_right a c x (other.back x g) ];
}

-- they are filled in, and attach the libraries of the parts
record FilledBy (v : Visit) (needs : Needs) (shown : List Piece) (parts : List LatePart) : Type 0 where
  attached : List Library
  fills : Fills (shown_below 5) v needs shown (full shown parts) attached
  same : SameMembers attached (libraries_in parts)

module _ (v : Visit) (needs : Needs) where
  place_by : (f : Fragment) (p : LatePart) (one : FragmentShows v f p) → Keeps one.shows.needs needs → (shown : List Piece) (parts : List LatePart) → FilledBy v needs shown parts → FilledBy v needs (Place (hole.Fragment f) ∷ shown) (p ∷ parts)
  place_by f p one keeps shown parts rest =
      let plan : Plan (Option ℕ) = whole [] (element.Fragment f) in
      let filled : IsFilledWith plan v needs (Fills (shown_below 5) v needs shown) (bytes p.text ++ full shown parts) (one.attached ++ rest.attached) = record {
        own = bytes p.text;
        libraries = one.attached;
        rest = full shown parts;
        others = rest.attached;
        status = one.status;
        shown_is = refl;
        attached_is = refl;
        made = Made-kept plan v one.status (bytes p.text) one.attached one.shows.needs needs keeps one.shows.made;
        follows = rest.fills;
      } in
      record {
        attached = one.attached ++ rest.attached;
        fills = subst (λ o. FillsPlace o v needs (hole.Fragment f) (Fills (shown_below 5) v needs shown) (bytes p.text ++ full shown parts) (one.attached ++ rest.attached)) (sym (stands f)) filled;
        same = same_both one.attached p.libraries rest.attached (libraries_in parts) one.same rest.same;
      }

  filled_by : (shown : List Piece) (parts : List LatePart) (is : PartsShow v (late_places shown) parts) → AllKept v (late_places shown) parts is needs → FilledBy v needs shown parts
  filled_by [] [] is kept = record { attached = []; fills = (refl, refl); same = same_refl [] }
  filled_by [] (p ∷ parts) is kept = absurd is
  filled_by (Byte b ∷ shown) parts is kept =
      let rest = filled_by shown parts is kept in
      record { attached = rest.attached; fills = (full shown parts, refl, rest.fills); same = rest.same }
  filled_by (Place hole.Meta ∷ shown) parts is kept =
      let rest = filled_by shown parts is kept in
      record { attached = rest.attached; fills = record { rest = full shown parts; shown_is = refl; follows = rest.fills }; same = rest.same }
  filled_by (Place (hole.Fragment f) ∷ shown) [] is kept = absurd is
  filled_by (Place (hole.Fragment f) ∷ shown) (p ∷ parts) is kept = place_by f p is.0 kept.0 shown parts (filled_by shown parts is.1 kept.1)

-- ---- the whole page

-- what is kept of a page, with the parts in their places, is made by the plan of the whole page
pub record PutTogether (path : List ℕ) (v : Visit) (x : Option ℕ) (shown : List Piece) (libraries : List Library) (parts : List LatePart) : Type 0 where
  pub needs : Needs
  pub attached : List Library
  pub not_over : v.moment ≤ needs.last
  pub made : Made (whole path element.Page) v x (full shown parts) attached needs
  pub same : SameMembers attached (libraries ++ libraries_in parts)

pub put_together : (path : List ℕ) (v : Visit) (x : Option ℕ) (shown : List Piece) (libraries : List Library) (parts : List LatePart) → Shows (framed path) v x shown libraries → PartsShow v (late_places shown) parts → PutTogether path v x shown libraries parts
put_together path v x shown libraries parts shows is =
    let e = enough v (late_places shown) parts is shows.needs shows.not_over in
    let by = filled_by v e.needs shown parts is e.all in
    let w : MakesWhole _ v x (full shown parts) (libraries ++ by.attached) e.needs =
    filled (shown_below 5) (framed path) v x shown libraries e.needs (full shown parts) by.attached
    (Made-kept (framed path) v x shown libraries shows.needs e.needs e.keeps shows.made) by.fills in
    record {
      needs = e.needs;
      attached = w.attached;
      not_over = e.not_over;
      made = page_filled path v x (full shown parts) w.attached e.needs w.made;
      same = same_trans w.attached (libraries ++ by.attached) (libraries ++ libraries_in parts) w.same (same_after libraries by.attached (libraries_in parts) by.same);
    }

-- its status is a page's
pub frame_status : (path : List ℕ) (v : Visit) (x : Option ℕ) (shown : List Piece) (libraries : List Library) → Shows (framed path) v x shown libraries → IsPageStatus x
frame_status path v x shown libraries shows =
    let some = parts_exist v (late_places shown) in
    let w = put_together path v x shown libraries some.0 shows some.1 in
    page_status path v x (full shown some.0) w.attached w.needs w.made

text_behind : (meta bs : List ℕ) (ps : List Piece) (text : List ℕ) → IsFilled meta ps text → IsFilled meta (bytes bs ++ ps) (bs ++ text)
text_behind meta [] ps text filled = filled
text_behind meta (b ∷ bs) ps text filled = (bs ++ text, refl, text_behind meta bs ps text filled)

-- their text is the text with the parts in their places
text_filled : (meta : List ℕ) (v : Visit) (shown : List Piece) (parts : List LatePart) → PartsShow v (late_places shown) parts → IsFilled meta (full shown parts) (put_in meta shown parts)
text_filled meta v [] parts is = refl
text_filled meta v (Byte b ∷ shown) parts is = (put_in meta shown parts, refl, text_filled meta v shown parts is)
text_filled meta v (Place hole.Meta ∷ shown) parts is = (put_in meta shown parts, refl, text_filled meta v shown parts is)
text_filled meta v (Place (hole.Fragment f) ∷ shown) [] is = absurd is
text_filled meta v (Place (hole.Fragment f) ∷ shown) (p ∷ parts) is =
    text_behind meta p.text (full shown parts) (put_in meta shown parts) (text_filled meta v shown parts is.1)

pub late_is_page : LateIsPage
late_is_page rows ask moment status text late =
    let v = visit_of rows ask moment in
    let all = late.libraries ++ libraries_in late.parts in
    let w = put_together ask.path v (Some status) late.shown late.libraries late.parts late.shows late.each in
    record {
      shown = full late.shown late.parts;
      libraries = w.attached;
      shows = record { needs = w.needs; not_over = w.not_over; made = w.made };
      filled = subst (λ m. IsFilled m (full late.shown late.parts) (body_of late)) (sym (same_meta w.attached all w.same))
          (text_filled (meta_text all) v late.shown late.parts late.each);
    }
