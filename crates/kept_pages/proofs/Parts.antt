-- Elements whose places are filled in, part by part.
use Rattle.std.proofs.Common.{ℕ, zero, suc, Bool, true, false, List, [], ◌∷◌, ◌++◌, ◌≡◌, ◌<◌, ◌≤◌, ◌+◌, refl, sym, ◌∙◌, ap, subst, append_assoc, append-nil, take, length, get_or, Option, Some, None, Contains, inl, inr}
use Rattle.std.specs.Prelude.{◌==◌, if◌then◌else◌, IfOk, Result, Ok, Err}
use Rattle.std.proofs.lemmas.Grind.{take_at_read}
use Rattle.cacheability.specs.declared.cacheability.Cacheability.{Cacheability}
use Rattle.html_out.specs.declared.part.Segment.{Segment}
use Rattle.html_out.specs.Part.{Part, Text, Hole as Open}
use Rattle.html_out.specs.Segment.{part_of, parts_of}
use Rattle.content_state.specs.declared.element.Fragment.{Fragment}
use Rattle.content_state.specs.declared.element.Hole.{Hole}
use Rattle.content_state.specs.declared.element.Hole.TheVariants as hole
use Rattle.content_state.specs.declared.element.Library.{Library}
use Rattle.content_state.specs.Context.{Visit}
use Rattle.content_state.specs.Plan.{Piece, Place, bytes, Plan, Needs, Made}
use Rattle.content_state.specs.Places.{Filling, filled_in, open_places, FillsPlace, Fills, SameMembers, MakesWhole}
use Rattle.content_state.proofs.Filled.{in_append, in_left, in_right, same_refl, same_trans, same_after, filled}
use Rattle.render_canvas.specs.declared.built.Built.{Built}
use Rattle.render_canvas.specs.Board.{pieces_of}
use Rattle.render_canvas.specs.Canvas.{Keeps}
use Rattle.render_canvas.specs.Finished.{needs_of as needs_built}
use Rattle.render_canvas.proofs.BoardLaws.{pieces_of-append}
use Rattle.render_canvas.proofs.Run.{Keeps-refl, Keeps-trans, Made-kept}
use Rattle.render_array.specs.declared.element.Element.TheVariants as element
use Rattle.render_array.specs.Built.{TellsExactly, Builds}
use Rattle.render_array.specs.Whole.{shown_below, whole, fragment_level}
use Rattle.renderer.proofs.Joining.{fills_kept, fills_append, fills_bytes, parts_append, no_later, least_first, least_second, within_both}
use Rattle.renderer.proofs.Standing.{some_below, none_below}
use Rattle.cache_entries.specs.declared.entry.Entry.{Entry}
use Rattle.cache_entries.specs.declared.key.Subject.TheVariants as subject
use Rattle.cache_entries.specs.Entries.{IsHere, needs_of as needs_entry, pieces_of as pieces_kept}
use Rattle.page_meaning.specs.Meaning.{meaning}
use Rattle.element_entries.specs.declared.making.Joined.{Joined}
use Rattle.element_entries.specs.Making.{needs_of}
use Rattle.kept_pages.specs.declared.joining.Begun.{Begun}
use Rattle.kept_pages.specs.Joins.{IsWhole, Begins, StaysOpen, Appends, Takes, Joins}

-- the pieces of segments, by the one definition and the other
pub same_pieces : (ps : List (Part Hole)) → pieces_kept ps ≡ pieces_of ps
same_pieces [] = refl
same_pieces (Text bs ∷ ps) = ap (λ l. bytes bs ++ l) (same_pieces ps)
same_pieces (Open h ∷ ps) = ap (λ l. Place h ∷ l) (same_pieces ps)

-- the same libraries behind
same_front : (xs ys zs : List Library) → SameMembers xs ys → SameMembers (xs ++ zs) (ys ++ zs)
same_front xs ys zs same = record {
  there = λ x h. elim (in_append xs zs x h) [ inl g ↦ in_left ys zs x (same.there x g) | inr g ↦ in_right ys zs x g ];
  back = λ x h. elim (in_append ys zs x h) [ inl g ↦ in_left xs zs x (same.back x g) | inr g ↦ in_right xs zs x g ];
}

pub joins_none : (fill : Filling) (v : Visit) (j : Joined) → Joins fill v [] j j
joins_none fill v j = record {
  shown = [];
  attached = [];
  appended = sym (append-nil (pieces_of j.segments));
  libraries = subst (λ l. SameMembers j.libraries.items l) (sym (append-nil j.libraries.items)) (same_refl j.libraries.items);
  kept = Keeps-refl (needs_of j);
  not_over = λ h. h;
  status = refl;
  fills = (refl, refl);
}

joins_then : (fill : Filling) (v : Visit) (a b : List Piece) (old mid new : Joined) → Joins fill v a old mid → Joins fill v b mid new → Joins fill v (a ++ b) old new
joins_then fill v a b old mid new first second = record {
  shown = first.shown ++ second.shown;
  attached = first.attached ++ second.attached;
  appended = second.appended ∙ ap (λ p. p ++ second.shown) first.appended ∙ append_assoc (pieces_of old.segments) first.shown second.shown;
  libraries = same_trans new.libraries.items (mid.libraries.items ++ second.attached) (old.libraries.items ++ (first.attached ++ second.attached)) second.libraries
      (subst (λ l. SameMembers (mid.libraries.items ++ second.attached) l) (append_assoc old.libraries.items first.attached second.attached)
      (same_front mid.libraries.items (old.libraries.items ++ first.attached) second.attached first.libraries));
  kept = Keeps-trans (needs_of old) (needs_of mid) (needs_of new) first.kept second.kept;
  not_over = λ h. second.not_over (first.not_over h);
  status = second.status ∙ first.status;
  fills = fills_append fill v (needs_of new) a b first.shown second.shown first.attached second.attached
      (fills_kept fill v (needs_of mid) (needs_of new) a first.shown first.attached second.kept first.fills) second.fills;
}

keeps_same : (old new : Joined) → new.cacheability ≡ old.cacheability → new.last ≡ old.last → Keeps (needs_of old) (needs_of new)
keeps_same old new cacheability last = record {
  tags = λ t h. subst (λ (c : Cacheability). Contains c.tags t) (sym cacheability) h;
  contexts = λ x h. subst (λ (c : Cacheability). Contains c.contexts x) (sym cacheability) h;
  last = no_later new.last old.last last;
}

same_with_none : (old new : Joined) → new.libraries ≡ old.libraries → SameMembers new.libraries.items (old.libraries.items ++ [])
same_with_none old new e =
    subst (λ l. SameMembers l (old.libraries.items ++ [])) (sym (ap (λ l. l.items) e))
    (subst (λ l. SameMembers old.libraries.items l) (sym (append-nil old.libraries.items)) (same_refl old.libraries.items))

-- bytes
pub joins_bytes : (fill : Filling) (v : Visit) (bs : List ℕ) (old new : Joined) → Appends (bytes bs) old new → Joins fill v (bytes bs ++ []) old new
joins_bytes fill v bs old new a = subst (λ p. Joins fill v p old new) (sym (append-nil (bytes bs))) (record {
  shown = bytes bs;
  attached = [];
  appended = a.appended;
  libraries = same_with_none old new a.libraries;
  kept = keeps_same old new a.cacheability a.last;
  not_over = λ h. subst (λ n. v.moment ≤ n) (sym a.last) h;
  status = a.status;
  fills = fills_bytes fill v (needs_of new) bs;
})

-- a place that stays open
none_of : (b : Bool) (o : Option (Plan (Option ℕ))) → o ≡ None → (if b then None else o) ≡ None
none_of true o none = refl
none_of false o none = none

open_meta : (k : ℕ) → shown_below k hole.Meta ≡ None
open_meta zero = refl
open_meta (suc k) = none_of (0 == k) (shown_below k hole.Meta) (open_meta k)

pub nothing_below : (below : ℕ) (h : Hole) → StaysOpen below h → shown_below below h ≡ None
nothing_below below h (inl is) = subst (λ x. shown_below below x ≡ None) (sym is) (open_meta below)
nothing_below below h (inr over) = none_below below h over

pub joins_open : (fill : Filling) (v : Visit) (h : Hole) (old new : Joined) → fill h ≡ None → Appends (Place h ∷ []) old new → Joins fill v (Place h ∷ []) old new
joins_open fill v h old new none a = record {
  shown = Place h ∷ [];
  attached = [];
  appended = a.appended;
  libraries = same_with_none old new a.libraries;
  kept = keeps_same old new a.cacheability a.last;
  not_over = λ x. subst (λ n. v.moment ≤ n) (sym a.last) x;
  status = a.status;
  fills = subst (λ o. FillsPlace o v (needs_of new) h (Fills fill v (needs_of new) []) (Place h ∷ []) []) (sym none) (record { rest = []; shown_is = refl; follows = (refl, refl) });
}

-- what stands in a place
pub in_place : (fill : Filling) (v : Visit) (h : Hole) (p : Plan (Option ℕ)) (status : Option ℕ) (own : List Piece) (attached : List Library) (needs : Needs) → fill h ≡ Some p → Made p v status own attached needs → Fills fill v needs (Place h ∷ []) own attached
in_place fill v h p status own attached needs stands made =
    subst (λ o. FillsPlace o v needs h (Fills fill v needs []) own attached) (sym stands) (record {
      own = own;
      libraries = attached;
      rest = [];
      others = [];
      status = status;
      shown_is = sym (append-nil own);
      attached_is = sym (append-nil attached);
      made = made;
      follows = (refl, refl);
    })

-- what an entry depends on was taken in
taken : (child : Entry) (old new : Joined) → Takes child old new → Keeps (needs_entry child) (needs_of new)
taken child old new takes = record { tags = λ t g. (takes.tags t).1 (inr g); contexts = λ c g. (takes.contexts c).1 (inr g); last = least_second new.last old.last child.last takes.last }

-- a child that stands there by a plan, which makes it where what it depends on was taken in
pub joins_filled : (fill : Filling) (v : Visit) (h : Hole) (p : Plan (Option ℕ)) (child : Entry) (attached : List Library) (old new : Joined) → fill h ≡ Some p → SameMembers attached child.libraries → v.moment ≤ child.last
    → Made p v child.status (pieces_of child.segments) attached (needs_of new) → Takes child old new → Joins fill v (Place h ∷ []) old new
joins_filled fill v h p child attached old new stands same not_over made takes = record {
  shown = pieces_of child.segments;
  attached = attached;
  appended = ap pieces_of takes.appended ∙ pieces_of-append old.segments child.segments;
  libraries = subst (λ l. SameMembers l (old.libraries.items ++ attached)) (sym takes.libraries)
      (same_after old.libraries.items child.libraries attached (record { there = same.back; back = same.there }));
  kept = record { tags = λ t g. (takes.tags t).1 (inl g); contexts = λ c g. (takes.contexts c).1 (inl g); last = least_first new.last old.last child.last takes.last };
  not_over = λ x. within_both v.moment new.last old.last child.last takes.last not_over x;
  status = takes.status;
  fills = in_place fill v h p child.status (pieces_of child.segments) attached (needs_of new) stands made;
}

-- a fragment that may be shown is made there
pub child_made : (v : Visit) (f : Fragment) (child : Entry) (old new : Joined) → (here : IsHere meaning (subject.Fragment f) v child) → Takes child old new → Made (whole [] (element.Fragment f)) v child.status (pieces_of child.segments) here.has.makes.attached (needs_of new)
child_made v f child old new here takes =
    Made-kept (whole [] (element.Fragment f)) v child.status (pieces_of child.segments) here.has.makes.attached (needs_entry child) (needs_of new) (taken child old new takes)
    (subst (λ ps. Made (whole [] (element.Fragment f)) v child.status ps here.has.makes.attached (needs_entry child)) (same_pieces child.segments) here.has.makes.made)

pub joins_child : (below : ℕ) (v : Visit) (h : Hole) (f : Fragment) (child : Entry) (old new : Joined) → h ≡ hole.Fragment f → fragment_level f < below → IsHere meaning (subject.Fragment f) v child → Takes child old new → Joins (shown_below below) v (Place h ∷ []) old new
joins_child below v h f child old new is lower here takes =
    joins_filled (shown_below below) v h (whole [] (element.Fragment f)) child here.has.makes.attached old new
    (subst (λ x. shown_below below x ≡ Some (whole [] (element.Fragment f))) (sym is) (some_below below (fragment_level f) (hole.Fragment f) refl lower))
    here.has.makes.same here.not_over (child_made v f child old new here takes) takes

-- one part after others
pub joins_part : (fill : Filling) (v : Visit) (ss : List (Segment Hole)) (i : ℕ) (s : Segment Hole) (old mid new : Joined) → i < length ss → s ≡ get_or ss i s → Joins fill v (pieces_of (parts_of (take i ss))) old mid → Joins fill v (pieces_of (part_of s ∷ [])) mid new → Joins fill v (pieces_of (parts_of (take (i + 1) ss))) old new
joins_part fill v ss i s old mid new within is first second =
    rw ((take_at_read ss i s within).1)
    (subst (λ p. Joins fill v p old new) (sym (parts_append (take i ss) (get_or ss i s)))
    (joins_then fill v (pieces_of (parts_of (take i ss))) (pieces_of (part_of (get_or ss i s) ∷ [])) old mid new first
    (subst (λ t. Joins fill v (pieces_of (part_of t ∷ [])) mid new) is second)))

-- what was made and is shown, its places filled in, is whole
pub whole_of : (fill : Filling) (v : Visit) (p : Plan (Option ℕ)) (status : Option ℕ) (pieces : List Piece) (libraries : List Library) (old new : Joined) → MakesWhole p v status pieces libraries (needs_of old) → v.moment ≤ old.last
    → old.libraries.items ≡ libraries → pieces_of old.segments ≡ [] → old.status ≡ status → Joins fill v pieces old new → IsWhole (filled_in fill p) v new
whole_of fill v p status pieces libraries old new makes over same none state joins = record {
  makes = record {
    attached = filled_makes.attached;
    made = subst (λ s. Made (filled_in fill p) v s (pieces_of new.segments) filled_makes.attached (needs_of new)) (sym (joins.status ∙ state))
        (subst (λ s. Made (filled_in fill p) v status s filled_makes.attached (needs_of new)) (sym (joins.appended ∙ ap (λ l. l ++ joins.shown) none)) filled_makes.made);
    same = same_trans filled_makes.attached (makes.attached ++ joins.attached) new.libraries.items filled_makes.same
        (same_trans (makes.attached ++ joins.attached) (libraries ++ joins.attached) new.libraries.items (same_front makes.attached libraries joins.attached makes.same)
        (subst (λ l. SameMembers (l ++ joins.attached) new.libraries.items) same (record { there = joins.libraries.back; back = joins.libraries.there })));
  };
  not_over = joins.not_over over;
}
  where
    filled_makes : MakesWhole (filled_in fill p) v status joins.shown (makes.attached ++ joins.attached) (needs_of new)
    filled_makes = filled fill p v status pieces makes.attached (needs_of new) joins.shown joins.attached
        (Made-kept p v status pieces makes.attached (needs_of old) (needs_of new) joins.kept makes.made) joins.fills

-- what was built is begun
pub begins_of : (p : Plan (Option ℕ)) (v : Visit) (b : Built) (begun : Begun) → Builds p v b → begun.segments ≡ b.segments → begun.filled.joined.segments ≡ [] → begun.filled.joined.libraries.items ≡ b.libraries
    → begun.filled.joined.cacheability ≡ b.cacheability → begun.filled.joined.last ≡ b.last → begun.filled.joined.status ≡ b.status → begun.filled.built ≡ 1 → Begins p v begun
begins_of p v b begun builds segments none libraries cacheability last status one = record {
  makes = record {
    attached = b.libraries;
    made = subst (λ s. Made p v begun.filled.joined.status (pieces_of s) b.libraries (needs_of begun.filled.joined)) (sym segments)
        (subst (λ s. Made p v s (pieces_of b.segments) b.libraries (needs_of begun.filled.joined)) (sym status)
        (subst (λ (n : Needs). Made p v b.status (pieces_of b.segments) b.libraries n) needs builds.made));
    same = subst (SameMembers b.libraries) (sym libraries) (same_refl b.libraries);
  };
  not_over = subst (λ n. v.moment ≤ n) (sym last) builds.not_over;
  exact = subst (λ (c : Cacheability). TellsExactly p v c) (sym cacheability) builds.exact;
  places = ap (λ s. open_places (pieces_of s)) segments ∙ builds.places;
  none = none;
  one = one;
}
  where
    needs : needs_built b ≡ needs_of begun.filled.joined
    needs i = record { tags = (sym cacheability i).tags; contexts = (sym cacheability i).contexts; last = sym last i }

-- what was begun
pub begun_whole : (fill : Filling) (v : Visit) (p : Plan (Option ℕ)) (begun : Begun) (new : Joined) → Begins p v begun → Joins fill v (pieces_of begun.segments) begun.filled.joined new → IsWhole (filled_in fill p) v new
begun_whole fill v p begun new begins joins = whole_of fill v p begun.filled.joined.status (pieces_of begun.segments) begun.filled.joined.libraries.items begun.filled.joined new
    begins.makes begins.not_over refl (ap pieces_of begins.none) refl joins

-- two facts of what a call gives
pub if_ok_both : {A E : Type 0} {P Q R : A → Type 0} (r : Result A E) → ((x : A) → P x → Q x → R x) → IfOk r P → IfOk r Q → IfOk r R
if_ok_both (Ok x) f p q = f x p q
if_ok_both (Err e) f p q = tt

-- and three
pub if_ok_three : {A E : Type 0} {P Q R S : A → Type 0} (r : Result A E) → ((x : A) → P x → Q x → R x → S x) → IfOk r P → IfOk r Q → IfOk r R → IfOk r S
if_ok_three (Ok x) f p q s = f x p q s
if_ok_three (Err e) f p q s = tt
