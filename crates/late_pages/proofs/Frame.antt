-- What is found or built, as it is sent.
use Rattle.std.proofs.Common.{ℕ, List, [], ◌∷◌, ◌++◌, ◌≡◌, refl, sym, ◌∙◌, ap, subst, arith, true, false, Option, Some, None, length, inl}
use Rattle.std.proofs.lemmas.Bool.{eqb-true}
use Rattle.std.proofs.lemmas.List.{map-append}
use Rattle.std.specs.Prelude.{◌==◌, IsTrue}
use Rattle.content_rows.specs.declared.cell.Cell.{Cell}
use Rattle.content_rows.specs.declared.row.Row.{Row}
use Rattle.content_state.specs.declared.ask.Ask.{Ask}
use Rattle.content_state.specs.declared.ask.Viewer.{Viewer}
use Rattle.content_state.specs.declared.element.Fragment.{Fragment}
use Rattle.content_state.specs.declared.element.Hole.{Hole}
use Rattle.content_state.specs.declared.element.Library.{Library}
use Rattle.content_state.specs.Context.{Visit}
use Rattle.content_state.specs.Entities.{is_json}
use Rattle.content_state.specs.Places.{SameMembers}
use Rattle.content_state.specs.Plan.{Piece, Byte, Place, bytes, Made, Shows}
use Rattle.content_state.specs.Viewer.{viewer_of}
use Rattle.html_out.specs.declared.part.Segment.{Segment}
use Rattle.html_out.specs.Part.{Part, Text, Hole as Open}
use Rattle.html_out.specs.Segment.{parts_of}
use Rattle.cache_entries.specs.declared.entry.Entry.{Entry}
use Rattle.cache_entries.specs.declared.key.Subject.TheVariants as subject
use Rattle.cache_entries.specs.Entries.{IsHere, needs_of, pieces_of as pieces_kept}
use Rattle.page_meaning.specs.Meaning.{meaning, framed}
use Rattle.render_canvas.specs.Board.{pieces_of}
use Rattle.render_array.specs.declared.element.Element.TheVariants as element
use Rattle.render_array.specs.Shown.{meta_text, IsPageStatus, is_page_status, IsPage}
use Rattle.render_array.specs.Whole.{whole}
use Rattle.render_array.proofs.Leaves.{fragment_written}
use Rattle.renderer.specs.Filled.{text_of}
use Rattle.renderer.proofs.Texts.{same_meta}
use Rattle.element_entries.specs.Readers.{Reader}
use Rattle.element_entries.specs.Keys.{visit}
use Rattle.kept_pages.proofs.Parts.{same_pieces}
use Rattle.late_out.specs.Marks.{body_end}
use Rattle.late_pages.specs.Late.{FragmentShows, late_places, marked, MaySendWhole, IsFirst, EndsPage}
use Rattle.late_pages.proofs.Placing.{frame_status}
use Rattle.late_pages.proofs.Sending.{marked_ends, first_is}

-- ---- a whole page

pub whole_first : (rows : List (Cell × Row)) (ask : Ask) (moment status status' : ℕ) (text text' : List ℕ) (holes : List Hole) → status' ≡ status → text' ≡ text → holes ≡ [] → MaySendWhole rows ask moment → IsPage rows ask moment status text
    → IsFirst rows ask moment status' text' holes
whole_first rows ask moment status status' text text' holes same_status same_text none may page =
    subst (λ (hs : List Hole). IsFirst rows ask moment status' text' hs) (sym none)
    (subst (λ (s : ℕ). IsFirst rows ask moment s text' []) (sym same_status)
    (subst (λ (t : List ℕ). IsFirst rows ask moment status t []) (sym same_text) (inl (record { may = may; page = page }), refl)))

-- ---- what is kept of a page for whoever views it

module _ (r : Reader) (e : Entry) (segments : List (Segment Hole)) (here : IsHere meaning (subject.Page r.ask.path) (visit r) e) (same : parts_of segments ≡ e.segments) where
  frame_shows : Shows (framed r.ask.path) (visit r) e.status (pieces_of (parts_of segments)) here.has.makes.attached
  frame_shows = record {
    needs = needs_of e;
    not_over = here.not_over;
    made = subst (λ ps. Made (framed r.ask.path) (visit r) e.status ps here.has.makes.attached (needs_of e)) (same_pieces e.segments ∙ ap pieces_of (sym same)) here.has.makes.made;
  }

  pub frame_ends : (meta text : List ℕ) → is_json r.ask.path ≡ false → text ≡ marked meta 0 (pieces_of (parts_of segments)) → EndsPage text
  frame_ends meta text isnt is =
      let ends = marked_ends r.ask.path (visit r) e.status (pieces_of (parts_of segments)) here.has.makes.attached meta isnt frame_shows in
      (ends.0, is ∙ ends.1)

  status_there : IsPageStatus e.status
  status_there = frame_status r.ask.path (visit r) e.status (pieces_of (parts_of segments)) here.has.makes.attached frame_shows

  pub no_status : (f : Entry) → f ≡ e → f.status ≡ None → ⊥
  no_status f is none = subst IsPageStatus (ap (λ (g : Entry). g.status) (sym is) ∙ none) status_there

  pub some_status : (f : Entry) (status : ℕ) → f ≡ e → f.status ≡ Some status → IsTrue (is_page_status status)
  some_status f status is some = subst IsPageStatus (ap (λ (g : Entry). g.status) (sym is) ∙ some) status_there

  abbrev seen_by : Viewer → Visit
  seen_by w = record { rows = r.state.rows; viewer = w; ask = r.ask; moment = r.moment }

  pub frame_first : (f : Entry) (status : ℕ) (meta all text : List ℕ) (holes : List Hole) → r.viewer ≡ viewer_of r.state.rows r.ask.cookie r.moment → is_json r.ask.path ≡ false → f ≡ e → f.status ≡ Some status
      → meta ≡ meta_text e.libraries → all ≡ marked meta 0 (pieces_of (parts_of segments)) → holes ≡ late_places (pieces_of (parts_of segments))
      → (holes ≡ [] → text ≡ all) → ((h : Hole) (others : List Hole) → holes ≡ h ∷ others → all ≡ text ++ body_end) → IsFirst r.state.rows r.ask r.moment status text holes
  frame_first f status meta all text holes named isnt is some lines all_is places uncut cut =
      first_is r.state.rows r.ask r.moment status (pieces_of (parts_of segments)) here.has.makes.attached holes text isnt
      (subst (λ (w : Viewer). Shows (framed r.ask.path) (seen_by w) (Some status) (pieces_of (parts_of segments)) here.has.makes.attached) named
      (subst (λ (s : Option ℕ). Shows (framed r.ask.path) (visit r) s (pieces_of (parts_of segments)) here.has.makes.attached) (ap (λ (g : Entry). g.status) (sym is) ∙ some) frame_shows))
      places (λ none. uncut none ∙ same_text) (λ h others more. sym same_text ∙ cut h others more)
    where
      same_text : all ≡ marked (meta_text here.has.makes.attached) 0 (pieces_of (parts_of segments))
      same_text =
          all_is ∙ ap (λ m. marked m 0 (pieces_of (parts_of segments))) (lines ∙ sym (same_meta here.has.makes.attached e.libraries here.has.makes.same))

-- there is one, or none
pub some_there : (holes : List Hole) (h : Hole) (others : List Hole) → true ≡ (length holes == 0) → holes ≡ h ∷ others → ⊥
some_there holes h others none more = let is = eqb-true (length holes) 0 (sym none) in let count = ap length more in omega (arith, is, count)

pub none_there : (holes : List Hole) → false ≡ (length holes == 0) → holes ≡ [] → ⊥
none_there holes some none = let impossible : false ≡ true = some ∙ ap (λ (hs : List Hole). length hs == 0) none in cc

-- ---- what is kept of a fragment

abbrev OnlyBytes : List Piece → Type 0
OnlyBytes [] = Unit {0}
OnlyBytes (Byte b ∷ ps) = OnlyBytes ps
OnlyBytes (Place h ∷ ps) = ⊥

bytes_only : (text : List ℕ) → OnlyBytes (bytes text)
bytes_only [] = tt
bytes_only (b ∷ text) = bytes_only text

only_behind : (bs : List ℕ) (ps : List Piece) → OnlyBytes (bytes bs ++ ps) → OnlyBytes ps
only_behind [] ps only = only
only_behind (b ∷ bs) ps only = only_behind bs ps only

written : (nothing : List ℕ) (parts : List (Part Hole)) → OnlyBytes (pieces_of parts) → pieces_of parts ≡ bytes (text_of nothing parts)
written nothing [] only = refl
written nothing (Text bs ∷ parts) only =
    ap (λ ps. bytes bs ++ ps) (written nothing parts (only_behind bs (pieces_of parts) only)) ∙ sym (map-append Byte bs (text_of nothing parts))
written nothing (Open h ∷ parts) only = absurd only

same_refl : (xs ys : List Library) → ys ≡ xs → (zs : List Library) → SameMembers zs xs → SameMembers zs ys
same_refl xs ys is zs same = subst (λ (l : List Library). SameMembers zs l) (sym is) same

pub part_shows : (v : Visit) (f : Fragment) (e : Entry) (segments : List (Segment Hole)) (text nothing : List ℕ) (libraries : List Library) → IsHere meaning (subject.Fragment f) v e → parts_of segments ≡ e.segments → text ≡ text_of nothing (parts_of segments)
    → libraries ≡ e.libraries → FragmentShows v f (record { libraries = libraries; text = text })
part_shows v f e segments text nothing libraries here same is attached_is = record {
  status = e.status;
  attached = here.has.makes.attached;
  shows = record {
    needs = needs_of e;
    not_over = here.not_over;
    made = subst (λ ps. Made (whole [] (element.Fragment f)) v e.status ps here.has.makes.attached (needs_of e)) pieces_are here.has.makes.made;
  };
  same = same_refl e.libraries libraries attached_is here.has.makes.attached here.has.makes.same;
}
  where
    shown : (text : List ℕ) × (pieces_kept e.segments ≡ bytes text)
    shown = fragment_written [] f v e.status (pieces_kept e.segments) here.has.makes.attached (needs_of e) here.has.makes.made

    pieces_are : pieces_kept e.segments ≡ bytes text
    pieces_are =
        same_pieces e.segments ∙ ap pieces_of (sym same)
        ∙ written nothing (parts_of segments) (subst OnlyBytes (sym shown.1 ∙ same_pieces e.segments ∙ ap pieces_of (sym same)) (bytes_only shown.0))
        ∙ ap bytes (sym is)
