-- Pages as they are kept for whoever views them, and the whole pages that they make.
use Rattle.std.proofs.Common.{ℕ, List, [], ◌∷◌, ◌++◌, ◌≡◌, ◌≤◌, refl, sym, ◌∙◌, ap, subst, append-nil, arith, Bool, true, false, Option, Some, None, Contains, inl, inr}
use Rattle.std.specs.Prelude.{option_map}
use Rattle.cacheability.specs.declared.cacheability.Cacheability.{Cacheability}
use Rattle.cacheability.specs.declared.tag.Tag.{Tag}
use Rattle.content_rows.specs.declared.row.Block.{Block}
use Rattle.content_rows.specs.declared.row.BlockKind.{BlockKind}
use Rattle.content_rows.specs.declared.row.BlockKind.TheVariants as kind
use Rattle.content_state.specs.declared.element.Depth.TheVariants as depth
use Rattle.content_state.specs.declared.element.Mode.TheVariants as mode
use Rattle.content_state.specs.declared.element.Fragment.{Fragment}
use Rattle.content_state.specs.declared.element.Fragment.TheVariants as fragment
use Rattle.content_state.specs.declared.element.Hole.TheVariants as hole
use Rattle.content_state.specs.declared.element.Library.{Library}
use Rattle.content_state.specs.Read.{answer, cover, BlockRow}
use Rattle.content_state.specs.Context.{Visit}
use Rattle.content_state.specs.Met.{met, result_of}
use Rattle.content_state.specs.Plan.{Piece, Place, Plan, Done, Write, Attach, Reading, Asking, Clock, Part, Needs, AllIn, Made, reading, part}
use Rattle.content_state.specs.Places.{SameMembers, MakesWhole}
use Rattle.content_state.proofs.Filled.{in_right, same_refl}
use Rattle.content_state.proofs.Made.{Made-then}
use Rattle.render_canvas.specs.Board.{pieces_of}
use Rattle.render_canvas.proofs.Run.{Keeps-trans}
use Rattle.render_array.specs.declared.element.Element.TheVariants as element
use Rattle.render_array.specs.Whole.{fragment_level, shown_below, whole}
use Rattle.cache_entries.specs.declared.entry.Entry.{Entry}
use Rattle.cache_entries.specs.declared.key.Subject.TheVariants as subject
use Rattle.cache_entries.specs.Entries.{IsHere}
use Rattle.cache_contexts.proofs.Tests.{nowhere}
use Rattle.page_meaning.specs.Lazy.{is_lazy_listing, is_lazy_kind, is_lazy_block, is_lazy, TellsOn}
use Rattle.page_meaning.specs.Meaning.{meaning, open_if, in_frame, framed}
use Rattle.page_meaning.proofs.Frames.{page_filled}
use Rattle.renderer.proofs.Joining.{no_later}
use Rattle.renderer.proofs.Standing.{some_below}
use Rattle.element_entries.specs.declared.making.Joined.{Joined}
use Rattle.element_entries.specs.Readers.{Reader}
use Rattle.element_entries.specs.Keys.{visit}
use Rattle.element_entries.specs.Making.{needs_of}
use Rattle.kept_pages.specs.Needed.{stays_lazy, tags_of_lazy}
use Rattle.kept_pages.specs.Joins.{IsWhole, Reopens, Appends, TakesFragment, Joins, AsksLazy, MakesPage, in_shared}
use Rattle.kept_pages.proofs.Parts.{same_pieces, joins_open, joins_filled, in_place, child_made, whole_of}

-- ---- whether a block is lazy is asked of rows alone

abbrev pub OfRows : {A : Type 0} → Plan A → Visit → Type 0
OfRows (Done a) v = Unit {0}
OfRows (Reading r k) v = OfRows (k (answer v.rows r)) v
OfRows (Write bs k) v = ⊥
OfRows (Attach l k) v = ⊥
OfRows (Asking c k) v = ⊥
OfRows (Clock age k) v = ⊥
OfRows (Part h k) v = ⊥

all_in : {A : Type 0} (xs ys zs : List A) → ((x : A) → Contains (xs ++ ys) x → Contains zs x) → AllIn xs zs
all_in [] ys zs more = tt
all_in (x ∷ xs) ys zs more = (more x (0, omega arith, refl), all_in xs ys zs (λ y h. more y (in_right (x ∷ []) (xs ++ ys) y h)))

rows_made : {A : Type 0} (p : Plan A) (v : Visit) (needs : Needs) → OfRows p v → ((t : Tag) → Contains (met p v).tags t → Contains needs.tags t) → Made p v (result_of p v) [] [] needs
rows_made (Done a) v needs of tags = (refl, refl, refl)
rows_made (Reading r k) v needs of tags =
    (all_in (cover v.rows r) (met (k (answer v.rows r)) v).tags needs.tags tags, rows_made (k (answer v.rows r)) v needs of (λ t h. tags t (in_right (cover v.rows r) (met (k (answer v.rows r)) v).tags t h)))
rows_made (Write bs k) v needs of tags = absurd of
rows_made (Attach l k) v needs of tags = absurd of
rows_made (Asking c k) v needs of tags = absurd of
rows_made (Clock age k) v needs of tags = absurd of
rows_made (Part h k) v needs of tags = absurd of

listing_of_rows : (name : Option (List ℕ)) (v : Visit) → OfRows (is_lazy_listing name) v
unfolding reading
listing_of_rows None v = tt
listing_of_rows (Some name) v = tt

kind_of_rows : (k : BlockKind) (block : Block) (v : Visit) → OfRows (is_lazy_kind k block) v
kind_of_rows kind.Text block v = tt
kind_of_rows kind.Menu block v = tt
kind_of_rows kind.Listing block v = listing_of_rows block.name v
kind_of_rows kind.Greeting block v = tt
kind_of_rows kind.Csrf block v = tt
kind_of_rows kind.Clock block v = tt

block_of_rows : (o : Option Block) (v : Visit) → OfRows (is_lazy_block o) v
block_of_rows None v = tt
block_of_rows (Some block) v = kind_of_rows block.kind block v

pub lazy_of_rows : (name : List ℕ) (v : Visit) → OfRows (is_lazy name) v
unfolding reading
lazy_of_rows name v = block_of_rows (answer v.rows (BlockRow name)) v

lazy_made : (name : List ℕ) (child : Plan (Option ℕ)) (v : Visit) (lazy : Bool) (x : Option ℕ) (own : List Piece) (libraries : List Library) (needs : Needs) → stays_lazy v (fragment.Block name) ≡ lazy
    → ((t : Tag) → Contains (tags_of_lazy v (fragment.Block name)) t → Contains needs.tags t) → Made (open_if lazy (fragment.Block name) child) v x own libraries needs → Made (in_frame (fragment.Block name) child) v x own libraries needs
lazy_made name child v lazy x own libraries needs is tags made =
    Made-then (is_lazy name) (λ b. open_if b (fragment.Block name) child) v (result_of (is_lazy name) v) x [] own [] libraries needs
    (rows_made (is_lazy name) v needs (lazy_of_rows name v) tags)
    (subst (λ b. Made (open_if b (fragment.Block name) child) v x own libraries needs) (sym is) made)

-- what is lazy stays open
pub frame_open : (f : Fragment) (child : Plan (Option ℕ)) (v : Visit) (needs : Needs) → stays_lazy v f ≡ true → ((t : Tag) → Contains (tags_of_lazy v f) t → Contains needs.tags t) → Made (in_frame f child) v None (Place (hole.Fragment f) ∷ []) [] needs
unfolding part
frame_open (fragment.Block name) child v needs lazy tags = lazy_made name child v true None (Place (hole.Fragment (fragment.Block name)) ∷ []) [] needs lazy tags ([], refl, (refl, refl, refl))
frame_open (fragment.Menu name) child v needs lazy tags = absurd (let is = lazy in cc)
frame_open (fragment.Listing name where_placed) child v needs lazy tags = absurd (let is = lazy in cc)
frame_open (fragment.TermListing t) child v needs lazy tags = absurd (let is = lazy in cc)
frame_open (fragment.Node n m) child v needs lazy tags = absurd (let is = lazy in cc)

-- and what isn't is shown
pub frame_shown : (f : Fragment) (child : Plan (Option ℕ)) (v : Visit) (x : Option ℕ) (own : List Piece) (libraries : List Library) (needs : Needs) → stays_lazy v f ≡ false → ((t : Tag) → Contains (tags_of_lazy v f) t → Contains needs.tags t)
    → Made child v x own libraries needs → Made (in_frame f child) v x own libraries needs
frame_shown (fragment.Block name) child v x own libraries needs lazy tags made = lazy_made name child v false x own libraries needs lazy tags made
frame_shown (fragment.Menu name) child v x own libraries needs lazy tags made = made
frame_shown (fragment.Listing name where_placed) child v x own libraries needs lazy tags made = made
frame_shown (fragment.TermListing t) child v x own libraries needs lazy tags made = made
frame_shown (fragment.Node n m) child v x own libraries needs lazy tags made = made

-- ---- whether a fragment is lazy was asked

pub asks_block : (r : Reader) (name : List ℕ) (f : Fragment) (old new : Joined) (lazy : Bool) → f ≡ fragment.Block name → TellsOn r.state (is_lazy name) old.cacheability lazy new.cacheability → new ≡ record old { cacheability = new.cacheability } → AsksLazy (visit r) f old lazy new
asks_block r name f old new lazy is tells same = subst (λ x. AsksLazy (visit r) x old lazy new) (sym is) (record {
  told = (tells (visit r) refl).result;
  tags = (tells (visit r) refl).tags;
  contexts = (tells (visit r) refl).contexts;
  age = (tells (visit r) refl).age;
  segments = ap (λ (j : Joined). j.segments) same;
  libraries = ap (λ (j : Joined). j.libraries) same;
  last = ap (λ (j : Joined). j.last) same;
  status = ap (λ (j : Joined). j.status) same;
})

pub asks_none : (v : Visit) (f g : Fragment) (j : Joined) → f ≡ g → stays_lazy v g ≡ false → tags_of_lazy v g ≡ [] → AsksLazy v f j false j
asks_none v f g j is never none = subst (λ x. AsksLazy v x j false j) (sym is) (record {
  told = sym never;
  tags = λ t. (λ h. inl h, λ h. elim h [ inl a ↦ a | inr b ↦ absurd (nowhere t (subst (λ ts. Contains ts t) none b)) ]);
  contexts = refl;
  age = refl;
  segments = refl;
  libraries = refl;
  last = refl;
  status = refl;
})

-- ---- a place of a page

pub below_page : (f : Fragment) → fragment_level f ≤ 4
below_page (fragment.Block name) = omega arith
below_page (fragment.Menu name) = omega arith
below_page (fragment.Listing name where_placed) = omega arith
below_page (fragment.TermListing t) = omega arith
below_page (fragment.Node n mode.Full) = omega arith
below_page (fragment.Node n mode.Teaser) = omega arith
below_page (fragment.Node n (mode.Embed depth.One)) = omega arith
below_page (fragment.Node n (mode.Embed depth.Two)) = omega arith
below_page (fragment.Node n (mode.Embed depth.Three)) = omega arith

pub stands : (f : Fragment) → in_shared (hole.Fragment f) ≡ Some (in_frame f (whole [] (element.Fragment f)))
stands f = ap (option_map (in_frame f)) (some_below 5 (fragment_level f) (hole.Fragment f) refl (let low = below_page f in omega arith))

pub joins_meta : (v : Visit) (old new : Joined) → Appends (Place hole.Meta ∷ []) old new → Joins in_shared v (Place hole.Meta ∷ []) old new
joins_meta v old new a = joins_open in_shared v hole.Meta old new refl a

-- once it was asked whether it is lazy
asked : (v : Visit) (f : Fragment) (lazy : Bool) (outer : List Piece) (old mid new : Joined) → AsksLazy v f old lazy mid → Joins in_shared v outer mid new → Joins in_shared v outer old new
asked v f lazy outer old mid new asks joins = record {
  shown = joins.shown;
  attached = joins.attached;
  appended = joins.appended ∙ ap (λ ps. pieces_of ps ++ joins.shown) asks.segments;
  libraries = subst (λ l. SameMembers new.libraries.items (l ++ joins.attached)) (ap (λ l. l.items) asks.libraries) joins.libraries;
  kept = Keeps-trans (needs_of old) (needs_of mid) (needs_of new) (record {
    tags = λ t h. (asks.tags t).1 (inl h);
    contexts = λ c h. subst (λ cs. Contains cs c) (sym asks.contexts) h;
    last = no_later mid.last old.last asks.last;
  }) joins.kept;
  not_over = λ h. joins.not_over (subst (λ n. v.moment ≤ n) (sym asks.last) h);
  status = joins.status ∙ asks.status;
  fills = joins.fills;
}

pub joins_lazy : (v : Visit) (f : Fragment) (lazy : Bool) (old mid new : Joined) → lazy ≡ true → AsksLazy v f old lazy mid → Appends (Place (hole.Fragment f) ∷ []) mid new → Joins in_shared v (Place (hole.Fragment f) ∷ []) old new
joins_lazy v f lazy old mid new is asks a = asked v f lazy (Place (hole.Fragment f) ∷ []) old mid new asks (record {
  shown = Place (hole.Fragment f) ∷ [];
  attached = [];
  appended = a.appended;
  libraries = subst (λ l. SameMembers new.libraries.items l) (ap (λ l. l.items) a.libraries ∙ sym (append-nil mid.libraries.items)) (same_refl new.libraries.items);
  kept = record {
    tags = λ t h. subst (λ (c : Cacheability). Contains c.tags t) (sym a.cacheability) h;
    contexts = λ x h. subst (λ (c : Cacheability). Contains c.contexts x) (sym a.cacheability) h;
    last = no_later new.last mid.last a.last;
  };
  not_over = λ x. subst (λ n. v.moment ≤ n) (sym a.last) x;
  status = a.status;
  fills = in_place in_shared v (hole.Fragment f) (in_frame f (whole [] (element.Fragment f))) None (Place (hole.Fragment f) ∷ []) [] (needs_of new) (stands f)
      (frame_open f (whole [] (element.Fragment f)) v (needs_of new) (sym asks.told ∙ is) (λ t h. subst (λ (c : Cacheability). Contains c.tags t) (sym a.cacheability) ((asks.tags t).1 (inr h))));
})

pub joins_shown : (v : Visit) (f : Fragment) (lazy : Bool) (old mid new : Joined) → lazy ≡ false → AsksLazy v f old lazy mid → TakesFragment v f mid new → Joins in_shared v (Place (hole.Fragment f) ∷ []) old new
joins_shown v f lazy old mid new is asks t = asked v f lazy (Place (hole.Fragment f) ∷ []) old mid new asks
    (joins_filled in_shared v (hole.Fragment f) (in_frame f (whole [] (element.Fragment f))) t.child t.here.has.makes.attached mid new (stands f)
    t.here.has.makes.same t.here.not_over
    (frame_shown f (whole [] (element.Fragment f)) v t.child.status (pieces_of t.child.segments) t.here.has.makes.attached (needs_of new) (sym asks.told ∙ is)
    (λ x h. (t.takes.tags x).1 (inl ((asks.tags x).1 (inr h)))) (child_made v f t.child mid new t.here t.takes)) t.takes)

-- ---- a whole page

pub frame_whole : (path : List ℕ) (v : Visit) (frame : Entry) (old new : Joined) → IsHere meaning (subject.Page path) v frame → Reopens frame old → Joins (shown_below 5) v (pieces_of frame.segments) old new → IsWhole (whole path element.Page) v new
frame_whole path v frame old new here reopens joins =
    let w = whole_of (shown_below 5) v (framed path) frame.status (pieces_of frame.segments) frame.libraries old new
    (subst (λ (n : Needs). MakesWhole (framed path) v frame.status (pieces_of frame.segments) frame.libraries n) same_needs
    (subst (λ ps. MakesWhole (framed path) v frame.status ps frame.libraries (record { tags = frame.cacheability.tags; contexts = frame.cacheability.contexts; last = frame.last })) (same_pieces frame.segments) here.has.makes))
    (subst (λ n. v.moment ≤ n) (sym reopens.last) here.not_over) reopens.libraries (ap pieces_of reopens.segments) reopens.status joins in
    record {
      makes = record {
        attached = w.makes.attached;
        made = page_filled path v new.status (pieces_of new.segments) w.makes.attached (needs_of new) w.makes.made;
        same = w.makes.same;
      };
      not_over = w.not_over;
    }
  where
    same_needs : record { tags = frame.cacheability.tags; contexts = frame.cacheability.contexts; last = frame.last } ≡ needs_of old
    same_needs i = record { tags = (sym reopens.cacheability i).tags; contexts = (sym reopens.cacheability i).contexts; last = sym reopens.last i }

-- what was put together makes the page
pub made_page : (v : Visit) (j : Joined) → IsWhole (whole v.ask.path element.Page) v j → MakesPage v j.status (pieces_of j.segments) j.libraries.items j.last
made_page v j is = record { needs = needs_of j; makes = is.makes; not_over = is.not_over; until = refl }
