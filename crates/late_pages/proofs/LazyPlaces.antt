-- On each visit what is kept of the page of a path leaves open just the lazy blocks that its plan has there.
use Rattle.std.proofs.Common.{ℕ, List, [], ◌∷◌, ◌++◌, ◌≡◌, refl, sym, ◌∙◌, ap, subst, Bool, true, false, Option, inl, inr}
use Rattle.std.specs.List.{flat_map}
use Rattle.std.specs.Prelude.{◌⊎◌, if◌then◌else◌}
use Rattle.content_state.specs.declared.element.Fragment.{Fragment}
use Rattle.content_state.specs.declared.element.Fragment.TheVariants as fragment
use Rattle.content_state.specs.declared.element.Hole.{Hole}
use Rattle.content_state.specs.declared.element.Hole.TheVariants as hole
use Rattle.content_state.specs.declared.element.Library.{Library}
use Rattle.content_state.specs.Context.{Visit, value}
use Rattle.content_state.specs.Met.{met, result_of}
use Rattle.content_state.specs.Places.{at_place, filled_in}
use Rattle.content_state.specs.Plan.{Piece, Byte, Place, Plan, Done, Write, Attach, Reading, Asking, Clock, Part, ◌>>=◌, Needs, Made, part}
use Rattle.content_state.specs.Read.{answer}
use Rattle.kept_pages.proofs.OfFrames.{stands, OfRows, lazy_of_rows}
use Rattle.kept_pages.proofs.Timeless.{Timeless, HasNoPlace, plan_either}
use Rattle.page_meaning.specs.Lazy.{is_lazy}
use Rattle.page_meaning.specs.Meaning.{open_if, in_frame, for_everybody}
use Rattle.page_meaning.proofs.Frames.{split}
use Rattle.render_array.specs.declared.element.Element.TheVariants as element
use Rattle.render_array.specs.Built.{plan_of}
use Rattle.render_array.specs.Shown.{OnlyMeta}
use Rattle.render_array.specs.Whole.{shown_below, whole}
use Rattle.render_array.proofs.Leaves.{fragment_closed}
use Rattle.late_pages.specs.Late.{late_places}
use Rattle.late_pages.specs.Laws.{lazy_place, PlacesAreLazy}
use Rattle.late_pages.proofs.Marks.{places_bytes}

only_none : (ps : List Piece) → OnlyMeta ps → late_places ps ≡ []
only_none [] only = refl
only_none (Byte b ∷ ps) only = only_none ps only
only_none (Place hole.Meta ∷ ps) only = only_none ps only
only_none (Place (hole.Fragment f) ∷ ps) only = absurd only

late_append : (ps qs : List Piece) → late_places (ps ++ qs) ≡ late_places ps ++ late_places qs
late_append [] qs = refl
late_append (Byte b ∷ ps) qs = late_append ps qs
late_append (Place hole.Meta ∷ ps) qs = late_append ps qs
late_append (Place (hole.Fragment f) ∷ ps) qs = ap (λ hs. hole.Fragment f ∷ hs) (late_append ps qs)

module _ (v : Visit) (needs : Needs) where
  -- what rows decide
  after_rows : {A B : Type 0} (p : Plan A) (f : A → Plan B) (x : B) (shown : List Piece) (libraries : List Library) → OfRows p v → Made (p >>= f) v x shown libraries needs → Made (f (result_of p v)) v x shown libraries needs
  after_rows (Done a) f x shown libraries of made = made
  after_rows (Reading r k) f x shown libraries of made = after_rows (k (answer v.rows r)) f x shown libraries of made.1
  after_rows (Write bs k) f x shown libraries of made = absurd of
  after_rows (Attach l k) f x shown libraries of made = absurd of
  after_rows (Asking c k) f x shown libraries of made = absurd of
  after_rows (Clock age k) f x shown libraries of made = absurd of
  after_rows (Part h k) f x shown libraries of made = absurd of

  -- in the place of a fragment
  child_closed : (f : Fragment) (x : Option ℕ) (own : List Piece) (attached : List Library) → Made (whole [] (element.Fragment f)) v x own attached needs → late_places own ≡ []
  child_closed f x own attached made = only_none own (fragment_closed [] f v x own attached needs made)

  open_or : (b : Bool) (f : Fragment) (x : Option ℕ) (own : List Piece) (attached : List Library) → Made (open_if b f (whole [] (element.Fragment f))) v x own attached needs → late_places own ≡ (if b then hole.Fragment f ∷ [] else [])
  unfolding part
  open_or true f x own attached made = ap late_places (made.1 ∙ ap (λ ps. Place (hole.Fragment f) ∷ ps) made.2.1)
  open_or false f x own attached made = child_closed f x own attached made

  fragment_lazy : (f : Fragment) (x : Option ℕ) (own : List Piece) (attached : List Library) → Made (in_frame f (whole [] (element.Fragment f))) v x own attached needs → late_places own ≡ lazy_place v (hole.Fragment f)
  fragment_lazy (fragment.Block name) x own attached made =
      open_or (result_of (is_lazy name) v) (fragment.Block name) x own attached
      (after_rows (is_lazy name) (λ b. open_if b (fragment.Block name) (whole [] (element.Fragment (fragment.Block name)))) x own attached (lazy_of_rows name v) made)
  fragment_lazy (fragment.Menu name) x own attached made = child_closed (fragment.Menu name) x own attached made
  fragment_lazy (fragment.Listing name where_placed) x own attached made = child_closed (fragment.Listing name where_placed) x own attached made
  fragment_lazy (fragment.TermListing t) x own attached made = child_closed (fragment.TermListing t) x own attached made
  fragment_lazy (fragment.Node n m) x own attached made = child_closed (fragment.Node n m) x own attached made

  place_lazy : {A : Type 0} (h : Hole) (k : Plan A) (x : A) (others : List Hole) (shown : List Piece) (libraries : List Library) → ((rest : List Piece) (libraries : List Library) → Made k v x rest libraries needs → late_places rest ≡ others)
      → Made (at_place (for_everybody (shown_below 5) h) h k) v x shown libraries needs → late_places shown ≡ lazy_place v h ++ others
  place_lazy hole.Meta k x others shown libraries rest_of made = ap late_places made.1 ∙ rest_of made.0 libraries made.2
  place_lazy (hole.Fragment f) k x others shown libraries rest_of made =
      let s = split (in_frame f (whole [] (element.Fragment f))) (λ _. k) v x shown libraries needs
      (subst (λ o. Made (at_place o (hole.Fragment f) k) v x shown libraries needs) (stands f) made) in
      ap late_places s.shown_is ∙ late_append s.own s.rest
      ∙ ap (λ hs. hs ++ late_places s.rest) (fragment_lazy f s.given s.own s.attached s.made)
      ∙ ap (λ hs. lazy_place v (hole.Fragment f) ++ hs) (rest_of s.rest s.others s.follows)

  frame_lazy : {A : Type 0} (p : Plan A) (x : A) (shown : List Piece) (libraries : List Library) → Timeless v p → Made (filled_in (for_everybody (shown_below 5)) p) v x shown libraries needs → late_places shown ≡ flat_map (lazy_place v) (met p v).places
  frame_lazy (Done a) x shown libraries timeless made = ap late_places made.1
  frame_lazy (Write bs k) x shown libraries timeless made = ap late_places made.1 ∙ places_bytes bs made.0 ∙ frame_lazy k x made.0 libraries timeless made.2
  frame_lazy (Attach l k) x shown libraries timeless made = frame_lazy k x shown made.0 timeless made.2
  frame_lazy (Reading r k) x shown libraries timeless made = frame_lazy (k (answer v.rows r)) x shown libraries timeless made.1
  frame_lazy (Asking c k) x shown libraries timeless made = frame_lazy (k (value v c)) x shown libraries timeless made.1
  frame_lazy (Clock age k) x shown libraries timeless made = absurd timeless
  frame_lazy (Part h k) x shown libraries timeless made =
      place_lazy h (filled_in (for_everybody (shown_below 5)) k) x (flat_map (lazy_place v) (met k v).places) shown libraries
      (λ rest others m. frame_lazy k x rest others timeless m) made

  -- where the plan leaves no place open
  no_place : {A : Type 0} (p : Plan A) → HasNoPlace v p → (met p v).places ≡ []
  no_place (Done a) closed = refl
  no_place (Write bs k) closed = no_place k closed
  no_place (Attach l k) closed = no_place k closed
  no_place (Reading r k) closed = no_place (k (answer v.rows r)) closed
  no_place (Asking c k) closed = no_place (k (value v c)) closed
  no_place (Clock age k) closed = no_place (k v.moment) (closed v.moment)
  no_place (Part h k) closed = absurd closed.0

  none_left : {A : Type 0} (p : Plan A) (x : A) (shown : List Piece) (libraries : List Library) → HasNoPlace v p → Made (filled_in (for_everybody (shown_below 5)) p) v x shown libraries needs → late_places shown ≡ []
  none_left (Done a) x shown libraries closed made = ap late_places made.1
  none_left (Write bs k) x shown libraries closed made = ap late_places made.1 ∙ places_bytes bs made.0 ∙ none_left k x made.0 libraries closed made.2
  none_left (Attach l k) x shown libraries closed made = none_left k x shown made.0 closed made.2
  none_left (Reading r k) x shown libraries closed made = none_left (k (answer v.rows r)) x shown libraries closed made.1
  none_left (Asking c k) x shown libraries closed made = none_left (k (value v c)) x shown libraries closed made.1
  none_left (Clock age k) x shown libraries closed made = none_left (k made.0) x shown libraries (closed made.0) made.3
  none_left (Part h k) x shown libraries closed made = absurd closed.0

  either_lazy : {A : Type 0} (p : Plan A) (x : A) (shown : List Piece) (libraries : List Library) → Timeless v p ⊎ HasNoPlace v p → Made (filled_in (for_everybody (shown_below 5)) p) v x shown libraries needs → late_places shown ≡ flat_map (lazy_place v) (met p v).places
  either_lazy p x shown libraries (inl timeless) made = frame_lazy p x shown libraries timeless made
  either_lazy p x shown libraries (inr closed) made = none_left p x shown libraries closed made ∙ ap (flat_map (lazy_place v)) (sym (no_place p closed))

pub places_are_lazy : PlacesAreLazy
places_are_lazy path v x shown libraries needs made = either_lazy v needs (plan_of path element.Page) x shown libraries (plan_either v path) made
