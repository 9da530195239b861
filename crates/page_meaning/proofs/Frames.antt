-- What fills the places that are left open in the page that is kept for whoever views it makes the whole page.
use Rattle.std.proofs.Common.{ℕ, zero, suc, List, [], ◌∷◌, ◌++◌, ◌≡◌, ◌<◌, refl, sym, ◌∙◌, ap, subst, append_assoc, append-nil, arith, Bool, true, false, Option, Some, None, inl, inr}
use Rattle.std.specs.Prelude.{◌==◌, if◌then◌else◌, option_map, unwrap_or}
use Rattle.std.proofs.Math.Path.{fun_ext}
use Rattle.std.proofs.lemmas.Bool.Decides.{eqb_tells}
use Rattle.content_rows.specs.declared.row.Block.{Block}
use Rattle.content_rows.specs.declared.row.BlockKind.{BlockKind}
use Rattle.content_rows.specs.declared.row.BlockKind.TheVariants as kind
use Rattle.content_state.specs.declared.element.Depth.TheVariants as depth
use Rattle.content_state.specs.declared.element.Fragment.{Fragment}
use Rattle.content_state.specs.declared.element.Fragment.TheVariants as fragment
use Rattle.content_state.specs.declared.element.Hole.{Hole}
use Rattle.content_state.specs.declared.element.Hole.TheVariants as hole
use Rattle.content_state.specs.declared.element.Library.{Library}
use Rattle.content_state.specs.declared.element.Mode.TheVariants as mode
use Rattle.content_state.specs.Read.{answer, BlockRow, ListingRow}
use Rattle.content_state.specs.Context.{Visit, value}
use Rattle.content_state.specs.Plan.{Piece, Place, bytes, Plan, Done, Write, Attach, Reading, Asking, Clock, Part, ◌>>=◌, ◌>>◌, Needs, Made, reading, part}
use Rattle.content_state.specs.Places.{Filling, at_place, filled_in}
use Rattle.content_state.proofs.Made.{Made-then, bind_assoc}
use Rattle.render_array.specs.declared.element.Element.TheVariants as element
use Rattle.render_array.specs.Built.{plan_of}
use Rattle.render_array.specs.Whole.{plan_at, level, fragment_level, shown_below, whole}
use Rattle.render_array.specs.Shown.{OnlyMeta}
use Rattle.render_array.proofs.Leaves.{fragment_closed}
use Rattle.page_meaning.specs.Lazy.{listing_is_momentary, is_lazy_listing, is_lazy_kind, is_lazy_block}
use Rattle.page_meaning.specs.Meaning.{open_if, in_frame, for_everybody, framed}

-- ---- one plan after another

-- what two plans make, one after the other
pub record Splits {A B : Type 0} (p : Plan A) (f : A → Plan B) (v : Visit) (x : B) (shown : List Piece) (libraries : List Library) (needs : Needs) : Type 0 where
  pub given : A
  pub own : List Piece
  pub rest : List Piece
  pub attached : List Library
  pub others : List Library
  pub shown_is : shown ≡ own ++ rest
  pub libraries_is : libraries ≡ attached ++ others
  pub made : Made p v given own attached needs
  pub follows : Made (f given) v x rest others needs

pub split : {A B : Type 0} (p : Plan A) (f : A → Plan B) (v : Visit) (x : B) (shown : List Piece) (libraries : List Library) (needs : Needs) → Made (p >>= f) v x shown libraries needs → Splits p f v x shown libraries needs
split (Done a) f v x shown libraries needs made = record {
  given = a;
  own = [];
  rest = shown;
  attached = [];
  others = libraries;
  shown_is = refl;
  libraries_is = refl;
  made = (refl, refl, refl);
  follows = made;
}
split (Write bs k) f v x shown libraries needs made =
    let s = split k f v x made.0 libraries needs made.2 in
    record {
      given = s.given;
      own = bytes bs ++ s.own;
      rest = s.rest;
      attached = s.attached;
      others = s.others;
      shown_is = made.1 ∙ ap (λ ps. bytes bs ++ ps) s.shown_is ∙ sym (append_assoc (bytes bs) s.own s.rest);
      libraries_is = s.libraries_is;
      made = (s.own, refl, s.made);
      follows = s.follows;
    }
split (Attach l k) f v x shown libraries needs made =
    let s = split k f v x shown made.0 needs made.2 in
    record {
      given = s.given;
      own = s.own;
      rest = s.rest;
      attached = l ∷ s.attached;
      others = s.others;
      shown_is = s.shown_is;
      libraries_is = made.1 ∙ ap (λ ls. l ∷ ls) s.libraries_is;
      made = (s.attached, refl, s.made);
      follows = s.follows;
    }
split (Reading r k) f v x shown libraries needs made =
    let s = split (k (answer v.rows r)) f v x shown libraries needs made.1 in
    record {
      given = s.given;
      own = s.own;
      rest = s.rest;
      attached = s.attached;
      others = s.others;
      shown_is = s.shown_is;
      libraries_is = s.libraries_is;
      made = (made.0, s.made);
      follows = s.follows;
    }
split (Asking c k) f v x shown libraries needs made =
    let s = split (k (value v c)) f v x shown libraries needs made.1 in
    record {
      given = s.given;
      own = s.own;
      rest = s.rest;
      attached = s.attached;
      others = s.others;
      shown_is = s.shown_is;
      libraries_is = s.libraries_is;
      made = (made.0, s.made);
      follows = s.follows;
    }
split (Clock age k) f v x shown libraries needs made =
    let s = split (k made.0) f v x shown libraries needs made.3 in
    record {
      given = s.given;
      own = s.own;
      rest = s.rest;
      attached = s.attached;
      others = s.others;
      shown_is = s.shown_is;
      libraries_is = s.libraries_is;
      made = (made.0, made.1, made.2, s.made);
      follows = s.follows;
    }
split (Part h k) f v x shown libraries needs made =
    let s = split k f v x made.0 libraries needs made.2 in
    record {
      given = s.given;
      own = Place h ∷ s.own;
      rest = s.rest;
      attached = s.attached;
      others = s.others;
      shown_is = made.1 ∙ ap (λ ps. Place h ∷ ps) s.shown_is;
      libraries_is = s.libraries_is;
      made = (s.own, refl, s.made);
      follows = s.follows;
    }

-- the places of one plan after another are filled in in turn
at_then : {A B : Type 0} (o : Option (Plan (Option ℕ))) (h : Hole) (p : Plan A) (f : A → Plan B) → at_place o h (p >>= f) ≡ (at_place o h p >>= f)
at_then None h p f = refl
at_then (Some child) h p f = sym (bind_assoc child (λ _. p) f)

pub filled_then : {A B : Type 0} (fill : Filling) (p : Plan A) (f : A → Plan B) → filled_in fill (p >>= f) ≡ (filled_in fill p >>= λ a. filled_in fill (f a))
filled_then fill (Done a) f = refl
filled_then fill (Write bs k) f = ap (Write bs) (filled_then fill k f)
filled_then fill (Attach l k) f = ap (Attach l) (filled_then fill k f)
filled_then fill (Reading r k) f = ap (Reading r) (fun_ext (λ x. filled_then fill (k x) f))
filled_then fill (Asking c k) f = ap (Asking c) (fun_ext (λ x. filled_then fill (k x) f))
filled_then fill (Clock age k) f = ap (Clock age) (fun_ext (λ t. filled_then fill (k t) f))
filled_then fill (Part h k) f =
    ap (at_place (fill h) h) (filled_then fill k f) ∙ at_then (fill h) h (filled_in fill k) (λ a. filled_in fill (f a))

-- ---- places that are closed

only_behind : (bs : List ℕ) (ps : List Piece) → OnlyMeta (bytes bs ++ ps) → OnlyMeta ps
only_behind [] ps only = only
only_behind (b ∷ bs) ps only = only_behind bs ps only

only_after : (h : Hole) (ps : List Piece) → OnlyMeta (Place h ∷ ps) → OnlyMeta ps
only_after hole.Meta ps only = only
only_after (hole.Fragment f) ps only = absurd only

-- Places are filled in with what is closed; that of the libraries stays open.
record IsClosing (fill : Filling) : Type 0 where
  meta : fill hole.Meta ≡ None
  closed : (f : Fragment) (child : Plan (Option ℕ)) → fill (hole.Fragment f) ≡ Some child → (v : Visit) (x : Option ℕ) (shown : List Piece) (libraries : List Library) (needs : Needs) → Made child v x shown libraries needs → OnlyMeta shown

-- what a plan makes whose places were filled in, it makes with its places left open, and that is the same where no place but that of
-- the libraries is open
record Unfills {A : Type 0} (p : Plan A) (v : Visit) (x : A) (shown : List Piece) (libraries : List Library) (needs : Needs) : Type 0 where
  outer : List Piece
  attached : List Library
  made : Made p v x outer attached needs
  same : OnlyMeta outer → (shown ≡ outer) × (libraries ≡ attached)

module _ (fill : Filling) (closing : IsClosing fill) where
  -- at one place
  unfill_place : {A : Type 0} (h : Hole) (o : Option (Plan (Option ℕ))) (k : Plan A) (v : Visit) (x : A) (shown : List Piece) (libraries : List Library) (needs : Needs) → fill h ≡ o
      → ((rest : List Piece) (others : List Library) → Made (filled_in fill k) v x rest others needs → Unfills k v x rest others needs)
      → Made (at_place o h (filled_in fill k)) v x shown libraries needs → Unfills (Part h k) v x shown libraries needs
  unfill_place h None k v x shown libraries needs is rest_of made =
      let u = rest_of made.0 libraries made.2 in
      record {
        outer = Place h ∷ u.outer;
        attached = u.attached;
        made = (u.outer, refl, u.made);
        same = λ only. (let s = u.same (only_after h u.outer only) in (made.1 ∙ ap (λ ps. Place h ∷ ps) s.0, s.1));
      }
  unfill_place hole.Meta (Some child) k v x shown libraries needs is rest_of made = absurd (let none = sym closing.meta ∙ is in cc)
  unfill_place (hole.Fragment f) (Some child) k v x shown libraries needs is rest_of made =
      let s = split child (λ _. filled_in fill k) v x shown libraries needs made in
      let u = rest_of s.rest s.others s.follows in
      record {
        outer = Place (hole.Fragment f) ∷ u.outer;
        attached = u.attached;
        made = (u.outer, refl, u.made);
        same = λ only. absurd only;
      }

  unfill : {A : Type 0} (p : Plan A) (v : Visit) (x : A) (shown : List Piece) (libraries : List Library) (needs : Needs) → Made (filled_in fill p) v x shown libraries needs → Unfills p v x shown libraries needs
  unfill (Done a) v x shown libraries needs made = record { outer = shown; attached = libraries; made = made; same = λ only. (refl, refl) }
  unfill (Write bs k) v x shown libraries needs made =
      let u = unfill k v x made.0 libraries needs made.2 in
      record {
        outer = bytes bs ++ u.outer;
        attached = u.attached;
        made = (u.outer, refl, u.made);
        same = λ only. (let s = u.same (only_behind bs u.outer only) in (made.1 ∙ ap (λ ps. bytes bs ++ ps) s.0, s.1));
      }
  unfill (Attach l k) v x shown libraries needs made =
      let u = unfill k v x shown made.0 needs made.2 in
      record {
        outer = u.outer;
        attached = l ∷ u.attached;
        made = (u.attached, refl, u.made);
        same = λ only. (let s = u.same only in (s.0, made.1 ∙ ap (λ ls. l ∷ ls) s.1));
      }
  unfill (Reading r k) v x shown libraries needs made =
      let u = unfill (k (answer v.rows r)) v x shown libraries needs made.1 in
      record { outer = u.outer; attached = u.attached; made = (made.0, u.made); same = u.same }
  unfill (Asking c k) v x shown libraries needs made =
      let u = unfill (k (value v c)) v x shown libraries needs made.1 in
      record { outer = u.outer; attached = u.attached; made = (made.0, u.made); same = u.same }
  unfill (Clock age k) v x shown libraries needs made =
      let u = unfill (k made.0) v x shown libraries needs made.3 in
      record { outer = u.outer; attached = u.attached; made = (made.0, made.1, made.2, u.made); same = u.same }
  unfill (Part h k) v x shown libraries needs made =
      unfill_place h (fill h) k v x shown libraries needs refl (λ rest others m. unfill k v x rest others needs m) made

  -- ---- what stands in the place of a fragment

  -- it makes this, with whichever status
  abbrev MakesSome : Plan (Option ℕ) → Visit → List Piece → List Library → Needs → Type 0
  MakesSome p v shown libraries needs = (x : Option ℕ) × Made p v x shown libraries needs

  module _ (f : Fragment) (child : Plan (Option ℕ)) (is : fill (hole.Fragment f) ≡ Some child) (v : Visit) (x : Option ℕ) (shown : List Piece) (libraries : List Library) (needs : Needs) where
    -- what is closed and was filled in all the same
    shown_child : Made (filled_in fill child) v x shown libraries needs → MakesSome child v shown libraries needs
    shown_child made =
        let u = unfill child v x shown libraries needs made in
        let s = u.same (closing.closed f child is v x u.outer u.attached needs u.made) in
        (x, subst (λ ps. Made child v x ps libraries needs) (sym s.0) (subst (λ ls. Made child v x u.outer ls needs) (sym s.1) u.made))

    -- what was left open, and was filled in
    open_child : Made (filled_in fill (part (hole.Fragment f) >> Done None)) v x shown libraries needs → MakesSome child v shown libraries needs
    unfolding part
    open_child made =
        let s = split child (λ _. Done None) v x shown libraries needs (subst (λ o. Made (at_place o (hole.Fragment f) (Done None)) v x shown libraries needs) is made) in
        let shown_is : shown ≡ s.own = s.shown_is ∙ ap (λ ps. s.own ++ ps) s.follows.1 ∙ append-nil s.own in
        let libraries_is : libraries ≡ s.attached = s.libraries_is ∙ ap (λ ls. s.attached ++ ls) s.follows.2 ∙ append-nil s.attached in
        (s.given, subst (λ ps. Made child v s.given ps libraries needs) (sym shown_is) (subst (λ ls. Made child v s.given s.own ls needs) (sym libraries_is) s.made))

    either_child : (lazy : Bool) → Made (filled_in fill (open_if lazy f child)) v x shown libraries needs → MakesSome child v shown libraries needs
    either_child true made = open_child made
    either_child false made = shown_child made

    listing_child : (name : Option (List ℕ)) → Made (filled_in fill (is_lazy_listing name >>= λ lazy. open_if lazy f child)) v x shown libraries needs → MakesSome child v shown libraries needs
    unfolding reading
    listing_child None made = shown_child made
    listing_child (Some name) made = either_child (listing_is_momentary (answer v.rows (ListingRow name))) made.1

    kind_child : (k : BlockKind) (block : Block) → Made (filled_in fill (is_lazy_kind k block >>= λ lazy. open_if lazy f child)) v x shown libraries needs → MakesSome child v shown libraries needs
    kind_child kind.Text block made = shown_child made
    kind_child kind.Menu block made = shown_child made
    kind_child kind.Listing block made = listing_child block.name made
    kind_child kind.Greeting block made = open_child made
    kind_child kind.Csrf block made = open_child made
    kind_child kind.Clock block made = either_child (unwrap_or block.age 0 == 0) made

    block_child : (o : Option Block) → Made (filled_in fill (is_lazy_block o >>= λ lazy. open_if lazy f child)) v x shown libraries needs → MakesSome child v shown libraries needs
    block_child None made = shown_child made
    block_child (Some block) made = kind_child block.kind block made

  frame_child : (f : Fragment) (child : Plan (Option ℕ)) → fill (hole.Fragment f) ≡ Some child → (v : Visit) (x : Option ℕ) (shown : List Piece) (libraries : List Library) (needs : Needs) → Made (filled_in fill (in_frame f child)) v x shown libraries needs → MakesSome child v shown libraries needs
  unfolding reading
  frame_child (fragment.Block name) child is v x shown libraries needs made = block_child (fragment.Block name) child is v x shown libraries needs (answer v.rows (BlockRow name)) made.1
  frame_child (fragment.Menu name) child is v x shown libraries needs made = shown_child (fragment.Menu name) child is v x shown libraries needs made
  frame_child (fragment.Listing name where_placed) child is v x shown libraries needs made = shown_child (fragment.Listing name where_placed) child is v x shown libraries needs made
  frame_child (fragment.TermListing t) child is v x shown libraries needs made = shown_child (fragment.TermListing t) child is v x shown libraries needs made
  frame_child (fragment.Node n m) child is v x shown libraries needs made = shown_child (fragment.Node n m) child is v x shown libraries needs made

  -- ---- a frame

  module _ {A : Type 0} (v : Visit) (x : A) (needs : Needs) (frame rest : Plan A) (rest_of : (shown : List Piece) (libraries : List Library) → Made (filled_in fill frame) v x shown libraries needs → Made rest v x shown libraries needs) where
    -- in the place of a fragment
    frame_fragment : (f : Fragment) (o : Option (Plan (Option ℕ))) → fill (hole.Fragment f) ≡ o → (shown : List Piece) (libraries : List Library) → Made (filled_in fill (at_place (option_map (in_frame f) o) (hole.Fragment f) frame)) v x shown libraries needs → Made (at_place o (hole.Fragment f) rest) v x shown libraries needs
    frame_fragment f None is shown libraries made =
        let m = subst (λ o. Made (at_place o (hole.Fragment f) (filled_in fill frame)) v x shown libraries needs) is made in
        (m.0, m.1, rest_of m.0 libraries m.2)
    frame_fragment f (Some child) is shown libraries made =
        let s = split (filled_in fill (in_frame f child)) (λ _. filled_in fill frame) v x shown libraries needs
        (subst (λ p. Made p v x shown libraries needs) (filled_then fill (in_frame f child) (λ _. frame)) made) in
        let c = frame_child f child is v s.given s.own s.attached needs s.made in
        subst (λ ps. Made (child >> rest) v x ps libraries needs) (sym s.shown_is)
        (subst (λ ls. Made (child >> rest) v x (s.own ++ s.rest) ls needs) (sym s.libraries_is)
        (Made-then child (λ _. rest) v c.0 x s.own s.rest s.attached s.others needs c.1 (rest_of s.rest s.others s.follows)))

    frame_place : (h : Hole) (shown : List Piece) (libraries : List Library) → Made (filled_in fill (at_place (for_everybody fill h) h frame)) v x shown libraries needs → Made (at_place (fill h) h rest) v x shown libraries needs
    frame_place hole.Meta shown libraries made =
        let m = subst (λ o. Made (at_place o hole.Meta (filled_in fill frame)) v x shown libraries needs) closing.meta made in
        subst (λ o. Made (at_place o hole.Meta rest) v x shown libraries needs) (sym closing.meta) (m.0, m.1, rest_of m.0 libraries m.2)
    frame_place (hole.Fragment f) shown libraries made = frame_fragment f (fill (hole.Fragment f)) refl shown libraries made

  frame_filled : {A : Type 0} (p : Plan A) (v : Visit) (x : A) (shown : List Piece) (libraries : List Library) (needs : Needs) → Made (filled_in fill (filled_in (for_everybody fill) p)) v x shown libraries needs → Made (filled_in fill p) v x shown libraries needs
  frame_filled (Done a) v x shown libraries needs made = made
  frame_filled (Write bs k) v x shown libraries needs made = (made.0, made.1, frame_filled k v x made.0 libraries needs made.2)
  frame_filled (Attach l k) v x shown libraries needs made = (made.0, made.1, frame_filled k v x shown made.0 needs made.2)
  frame_filled (Reading r k) v x shown libraries needs made = (made.0, frame_filled (k (answer v.rows r)) v x shown libraries needs made.1)
  frame_filled (Asking c k) v x shown libraries needs made = (made.0, frame_filled (k (value v c)) v x shown libraries needs made.1)
  frame_filled (Clock age k) v x shown libraries needs made = (made.0, made.1, made.2, frame_filled (k made.0) v x shown libraries needs made.3)
  frame_filled (Part h k) v x shown libraries needs made =
      frame_place v x needs (filled_in (for_everybody fill) k) (filled_in fill k) (λ ps ls m. frame_filled k v x ps ls needs m) h shown libraries made

-- ---- on a page

some_below : (k l : ℕ) (h : Hole) → level h ≡ l → l < k → shown_below k h ≡ option_map (filled_in (shown_below l)) (plan_at h)
some_below zero l h is lower = absurd (omega arith)
some_below (suc k) l h is lower = elim (eqb_tells (level h) k) [
  | inl e ↦ subst (λ b. (if b then option_map (filled_in (shown_below k)) (plan_at h) else shown_below k h) ≡ option_map (filled_in (shown_below l)) (plan_at h)) (sym e.0)
      (ap (λ j. option_map (filled_in (shown_below j)) (plan_at h)) (sym e.1 ∙ is))
  | inr e ↦ subst (λ b. (if b then option_map (filled_in (shown_below k)) (plan_at h) else shown_below k h) ≡ option_map (filled_in (shown_below l)) (plan_at h)) (sym e.0)
      (some_below k l h is (let other = e.1 in omega arith))
]

below_page : (f : Fragment) → fragment_level f < 5
below_page (fragment.Block name) = omega arith
below_page (fragment.Menu name) = omega arith
below_page (fragment.Listing name where_placed) = omega arith
below_page (fragment.TermListing t) = omega arith
below_page (fragment.Node n mode.Full) = omega arith
below_page (fragment.Node n mode.Teaser) = omega arith
below_page (fragment.Node n (mode.Embed depth.One)) = omega arith
below_page (fragment.Node n (mode.Embed depth.Two)) = omega arith
below_page (fragment.Node n (mode.Embed depth.Three)) = omega arith

pub stands : (f : Fragment) → shown_below 5 (hole.Fragment f) ≡ Some (whole [] (element.Fragment f))
stands f = some_below 5 (fragment_level f) (hole.Fragment f) refl (below_page f)

page_closing : IsClosing (shown_below 5)
page_closing = record {
  meta = refl;
  closed = λ f child is v x shown libraries needs made.
      fragment_closed [] f v x shown libraries needs
      (subst (λ o. Made (unwrap_or o child) v x shown libraries needs) (sym is ∙ stands f) made);
}

pub page_filled : (path : List ℕ) (v : Visit) (x : Option ℕ) (shown : List Piece) (libraries : List Library) (needs : Needs) → Made (filled_in (shown_below 5) (framed path)) v x shown libraries needs → Made (whole path element.Page) v x shown libraries needs
page_filled path v x shown libraries needs made =
    frame_filled (shown_below 5) page_closing (plan_of path element.Page) v x shown libraries needs made
