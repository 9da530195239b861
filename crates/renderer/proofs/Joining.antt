-- Elements whose places are filled in, part by part.
use Rattle.std.proofs.Common.{ℕ, List, [], ◌∷◌, ◌++◌, ◌≡◌, ◌≤◌, ◌<◌, ◌+◌, min, refl, sym, ◌∙◌, ap, subst, append_assoc, append-nil, arith, take, take_all, length, get_or, Option, Some, None, Contains, inl, inr}
use Rattle.std.proofs.lemmas.Grind.{take_at_read}
use Rattle.std.specs.Prelude.{sum_by}
use Rattle.std.proofs.lemmas.List.Sums.{sum_by-append, sum_by-cons}
use Rattle.cacheability.specs.declared.cacheability.Cacheability.{Cacheability}
use Rattle.html_out.specs.declared.part.Segment.{Segment}
use Rattle.html_out.specs.Part.{Part, Text, Hole as Open}
use Rattle.html_out.specs.Segment.{part_of, parts_of}
use Rattle.content_state.specs.declared.element.Hole.{Hole}
use Rattle.content_state.specs.declared.element.Library.{Library}
use Rattle.content_state.specs.Context.{Visit}
use Rattle.content_state.specs.Plan.{Piece, Byte, Place, bytes, Plan, Needs, Made}
use Rattle.content_state.specs.Places.{Filling, filled_in, open_places, FillsPlace, Fills, SameMembers, MakesWhole}
use Rattle.content_state.proofs.Filled.{in_append, in_left, in_right, same_refl, same_trans, same_after, filled}
use Rattle.render_canvas.specs.declared.built.Built.{Built}
use Rattle.render_canvas.specs.Board.{pieces_of}
use Rattle.render_array.specs.Built.{Builds}
use Rattle.render_canvas.specs.Finished.{needs_of as needs_built}
use Rattle.render_canvas.specs.Canvas.{Keeps}
use Rattle.render_array.specs.Whole.{count_with}
use Rattle.render_canvas.proofs.BoardLaws.{finished, pieces_of-append, places-append, places_of_bytes}
use Rattle.render_canvas.proofs.Run.{Keeps-refl, Keeps-trans, Made-kept}
use Rattle.render_array.specs.Built.{TellsExactly}
use Rattle.renderer.specs.declared.filled.Filled.{Filled}
use Rattle.renderer.specs.Filled.{needs_of, met_in, TellsMore, IsWhole, Appends, Takes, Joins}
use Rattle.renderer.proofs.Telling.{tells_none, tells_places, tells_open, tells_one, tells_child, tells_filled}

-- what fills places stays so where more is needed
pub fills_kept : (fill : Filling) (v : Visit) (old new : Needs) (outer shown : List Piece) (attached : List Library) → Keeps old new → Fills fill v old outer shown attached → Fills fill v new outer shown attached
fills_kept fill v old new [] shown attached keeps fills = fills
fills_kept fill v old new (Byte b ∷ outer) shown attached keeps fills = (fills.0, fills.1, fills_kept fill v old new outer fills.0 attached keeps fills.2)
fills_kept fill v old new (Place h ∷ outer) shown attached keeps fills = place_kept (fill h) h outer shown attached (λ rest others f. fills_kept fill v old new outer rest others keeps f) fills
  where
    place_kept : (o : Option (Plan (Option ℕ))) (h : Hole) (outer shown : List Piece) (attached : List Library) → ((rest : List Piece) (others : List Library) → Fills fill v old outer rest others → Fills fill v new outer rest others) → FillsPlace o v old h (Fills fill v old outer) shown attached → FillsPlace o v new h (Fills fill v new outer) shown attached
    place_kept None h outer shown attached rest_of f = record { rest = f.rest; shown_is = f.shown_is; follows = rest_of f.rest attached f.follows }
    place_kept (Some child) h outer shown attached rest_of f = record {
      own = f.own;
      libraries = f.libraries;
      rest = f.rest;
      others = f.others;
      status = f.status;
      shown_is = f.shown_is;
      attached_is = f.attached_is;
      made = Made-kept child v f.status f.own f.libraries old new keeps f.made;
      follows = rest_of f.rest f.others f.follows;
    }

pub fills_append : (fill : Filling) (v : Visit) (needs : Needs) (a b s t : List Piece) (l m : List Library) → Fills fill v needs a s l → Fills fill v needs b t m → Fills fill v needs (a ++ b) (s ++ t) (l ++ m)
fills_append fill v needs [] b s t l m first second =
    subst (λ x. Fills fill v needs b (x ++ t) (l ++ m)) (sym first.0) (subst (λ x. Fills fill v needs b t (x ++ m)) (sym first.1) second)
fills_append fill v needs (Byte c ∷ a) b s t l m first second =
    (first.0 ++ t, ap (λ x. x ++ t) first.1, fills_append fill v needs a b first.0 t l m first.2 second)
fills_append fill v needs (Place h ∷ a) b s t l m first second =
    place_append (fill h) h s l (λ rest others f. fills_append fill v needs a b rest t others m f second) first
  where
    place_append : (o : Option (Plan (Option ℕ))) (h : Hole) (s : List Piece) (l : List Library) → ((rest : List Piece) (others : List Library) → Fills fill v needs a rest others → Fills fill v needs (a ++ b) (rest ++ t) (others ++ m)) → FillsPlace o v needs h (Fills fill v needs a) s l → FillsPlace o v needs h (Fills fill v needs (a ++ b)) (s ++ t) (l ++ m)
    place_append None h s l rest_of f = record { rest = f.rest ++ t; shown_is = ap (λ x. x ++ t) f.shown_is; follows = rest_of f.rest l f.follows }
    place_append (Some child) h s l rest_of f = record {
      own = f.own;
      libraries = f.libraries;
      rest = f.rest ++ t;
      others = f.others ++ m;
      status = f.status;
      shown_is = ap (λ x. x ++ t) f.shown_is ∙ append_assoc f.own f.rest t;
      attached_is = ap (λ x. x ++ m) f.attached_is ∙ append_assoc f.libraries f.others m;
      made = f.made;
      follows = rest_of f.rest f.others f.follows;
    }

pub fills_bytes : (fill : Filling) (v : Visit) (needs : Needs) (bs : List ℕ) → Fills fill v needs (bytes bs) (bytes bs) []
fills_bytes fill v needs [] = (refl, refl)
fills_bytes fill v needs (b ∷ bs) = (bytes bs, refl, fills_bytes fill v needs bs)

-- numbers alone: where a visit's records are known too, `omega` reads these through
pub no_later : (new old : ℕ) → new ≡ old → new ≤ old
no_later new old is = omega arith

pub least_first : (new old child : ℕ) → new ≡ min old child → new ≤ old
least_first new old child is = omega arith

pub least_second : (new old child : ℕ) → new ≡ min old child → new ≤ child
least_second new old child is = omega arith

pub within_both : (moment new old child : ℕ) → new ≡ min old child → moment ≤ child → moment ≤ old → moment ≤ new
within_both moment new old child is below above = omega arith

-- counts up to the greatest u64
min_zero : (t : ℕ) → min t 18446744073709551615 ≡ min (t + 0) 18446744073709551615
min_zero t = omega arith

total_of : (n o c t k : ℕ) → n ≡ min (o + c) 18446744073709551615 → o ≡ min t 18446744073709551615 → c ≡ min k 18446744073709551615 → n ≡ min (t + k) 18446744073709551615
total_of n o c t k new old child = omega arith

sum_of : (c a b s : ℕ) → s ≡ a + b → (c + a) + b ≡ c + s
sum_of c a b s is = omega arith

one_place : (f : Hole → ℕ) (h : Hole) → sum_by f (h ∷ []) ≡ f h
one_place f h = let one = sum_by-cons f h [] in let none : sum_by f [] ≡ 0 = refl in omega arith

pub joins_none : (fill : Filling) (counts : Hole → ℕ) (v : Visit) (f : Filled) → Joins fill counts v [] f f
joins_none fill counts v f = record {
  shown = [];
  attached = [];
  appended = sym (append-nil (pieces_of f.segments));
  libraries = subst (λ l. SameMembers f.libraries.items l) (sym (append-nil f.libraries.items)) (same_refl f.libraries.items);
  kept = Keeps-refl (needs_of f);
  not_over = λ h. h;
  status = refl;
  fills = (refl, refl);
  told = tells_none f.cacheability f.cacheability refl;
  counted = λ count is. is ∙ min_zero count;
}

joins_then : (fill : Filling) (counts : Hole → ℕ) (v : Visit) (a b : List Piece) (old mid new : Filled) → Joins fill counts v a old mid → Joins fill counts v b mid new → Joins fill counts v (a ++ b) old new
joins_then fill counts v a b old mid new first second = record {
  shown = first.shown ++ second.shown;
  attached = first.attached ++ second.attached;
  appended = second.appended ∙ ap (λ p. p ++ second.shown) first.appended ∙ append_assoc (pieces_of old.segments) first.shown second.shown;
  libraries = same_trans new.libraries.items (mid.libraries.items ++ second.attached) (old.libraries.items ++ (first.attached ++ second.attached)) second.libraries
      (subst (λ l. SameMembers (mid.libraries.items ++ second.attached) l) (append_assoc old.libraries.items first.attached second.attached)
      (same_before mid.libraries.items (old.libraries.items ++ first.attached) second.attached first.libraries));
  kept = Keeps-trans (needs_of old) (needs_of mid) (needs_of new) first.kept second.kept;
  not_over = λ h. second.not_over (first.not_over h);
  status = second.status ∙ first.status;
  fills = fills_append fill v (needs_of new) a b first.shown second.shown first.attached second.attached
      (fills_kept fill v (needs_of mid) (needs_of new) a first.shown first.attached second.kept first.fills) second.fills;
  told = tells_places fill v (open_places a) (open_places b) (open_places (a ++ b)) old.cacheability mid.cacheability new.cacheability (places-append a b) first.told second.told;
  counted = λ count is.
      second.counted (count + sum_by counts (open_places a)) (first.counted count is)
      ∙ ap (λ n. min n 18446744073709551615) (total count);
}
  where
    same_before : (xs ys zs : List Library) → SameMembers xs ys → SameMembers (xs ++ zs) (ys ++ zs)
    same_before xs ys zs same = record {
      there = λ x h. elim (in_append xs zs x h) [ inl g ↦ in_left ys zs x (same.there x g) | inr g ↦ in_right ys zs x g ];
      back = λ x h. elim (in_append ys zs x h) [ inl g ↦ in_left xs zs x (same.back x g) | inr g ↦ in_right xs zs x g ];
    }

    total : (count : ℕ) → (count + sum_by counts (open_places a)) + sum_by counts (open_places b) ≡ count + sum_by counts (open_places (a ++ b))
    total count =
        sum_of count (sum_by counts (open_places a)) (sum_by counts (open_places b)) (sum_by counts (open_places (a ++ b)))
        (ap (sum_by counts) (places-append a b) ∙ sum_by-append counts (open_places a) (open_places b))

pub keeps_same : (old new : Filled) → new.cacheability ≡ old.cacheability → new.last ≡ old.last → Keeps (needs_of old) (needs_of new)
keeps_same old new cacheability last = record {
  tags = λ t h. subst (λ c. Contains c.tags t) (sym cacheability) h;
  contexts = λ x h. subst (λ c. Contains c.contexts x) (sym cacheability) h;
  last = no_later new.last old.last last;
}

same_with_none : (old new : Filled) → new.libraries ≡ old.libraries → SameMembers new.libraries.items (old.libraries.items ++ [])
same_with_none old new e =
    subst (λ l. SameMembers l (old.libraries.items ++ [])) (sym (ap (λ l. l.items) e))
    (subst (λ l. SameMembers old.libraries.items l) (sym (append-nil old.libraries.items)) (same_refl old.libraries.items))

-- bytes
pub joins_bytes : (fill : Filling) (counts : Hole → ℕ) (v : Visit) (bs : List ℕ) (old new : Filled) → Appends (bytes bs) old new → Joins fill counts v (bytes bs ++ []) old new
joins_bytes fill counts v bs old new a = subst (λ p. Joins fill counts v p old new) (sym (append-nil (bytes bs))) (record {
  shown = bytes bs;
  attached = [];
  appended = a.appended;
  libraries = same_with_none old new a.libraries;
  kept = keeps_same old new a.cacheability a.last;
  not_over = λ h. subst (λ n. v.moment ≤ n) (sym a.last) h;
  status = a.status;
  fills = fills_bytes fill v (needs_of new) bs;
  told = subst (λ hs. TellsMore (met_in fill v hs) old.cacheability new.cacheability) (sym (places_of_bytes bs)) (tells_none old.cacheability new.cacheability a.cacheability);
  counted = λ count is. a.built ∙ is ∙ min_zero count
      ∙ ap (λ n. min (count + n) 18446744073709551615) (sym (ap (sum_by counts) (places_of_bytes bs)));
})

-- a place that stays open
pub joins_open : (fill : Filling) (counts : Hole → ℕ) (v : Visit) (h : Hole) (old new : Filled) → fill h ≡ None → counts h ≡ 0 → Appends (Place h ∷ []) old new → Joins fill counts v (Place h ∷ []) old new
joins_open fill counts v h old new stays count a = record {
  shown = Place h ∷ [];
  attached = [];
  appended = a.appended;
  libraries = same_with_none old new a.libraries;
  kept = keeps_same old new a.cacheability a.last;
  not_over = λ x. subst (λ n. v.moment ≤ n) (sym a.last) x;
  status = a.status;
  fills = subst (λ o. FillsPlace o v (needs_of new) h (Fills fill v (needs_of new) []) (Place h ∷ []) []) (sym stays) (record { rest = []; shown_is = refl; follows = (refl, refl) });
  told = tells_open fill v h old.cacheability new.cacheability stays a.cacheability;
  counted = λ total is. a.built ∙ is ∙ min_zero total
      ∙ ap (λ n. min (total + n) 18446744073709551615) (sym (one_place counts h ∙ count));
}

-- a child
pub joins_child : (fill : Filling) (counts : Hole → ℕ) (v : Visit) (h : Hole) (p : Plan (Option ℕ)) (count : ℕ) (child old new : Filled) → fill h ≡ Some p → counts h ≡ count → IsWhole p v count child → Takes child old new → Joins fill counts v (Place h ∷ []) old new
joins_child fill counts v h p count child old new stands count_is whole takes = record {
  shown = pieces_of child.segments;
  attached = made.attached;
  appended = ap pieces_of takes.appended ∙ pieces_of-append old.segments child.segments;
  libraries = subst (λ l. SameMembers l (old.libraries.items ++ made.attached)) (sym takes.libraries)
      (same_after old.libraries.items child.libraries.items made.attached (record { there = made.same.back; back = made.same.there }));
  kept = record { tags = λ t g. (takes.tags t).1 (inl g); contexts = λ c g. (takes.contexts c).1 (inl g); last = least_first new.last old.last child.last takes.last };
  not_over = λ x. within_both v.moment new.last old.last child.last takes.last whole.not_over x;
  status = takes.status;
  fills = subst (λ o. FillsPlace o v (needs_of new) h (Fills fill v (needs_of new) []) (pieces_of child.segments) made.attached) (sym stands) (record {
    own = pieces_of child.segments;
    libraries = made.attached;
    rest = [];
    others = [];
    status = child.status;
    shown_is = sym (append-nil (pieces_of child.segments));
    attached_is = sym (append-nil made.attached);
    made = Made-kept p v child.status (pieces_of child.segments) made.attached (needs_of child) (needs_of new)
        (record { tags = λ t g. (takes.tags t).1 (inr g); contexts = λ c g. (takes.contexts c).1 (inr g); last = least_second new.last old.last child.last takes.last }) made.made;
    follows = (refl, refl);
  });
  told = tells_one fill v h p old.cacheability new.cacheability stands (tells_child p v count child old new whole takes);
  counted = λ total is. total_of new.built old.built child.built total count takes.built is whole.counted
      ∙ ap (λ n. min (total + n) 18446744073709551615) (sym (one_place counts h ∙ count_is));
}
  where
    made : MakesWhole p v child.status (pieces_of child.segments) child.libraries.items (needs_of child)
    made = whole.makes

-- one part after others
pub parts_append : (ss : List (Segment Hole)) (s : Segment Hole) → pieces_of (parts_of (ss ++ s ∷ [])) ≡ pieces_of (parts_of ss) ++ pieces_of (part_of s ∷ [])
parts_append ss s = ap pieces_of (mapped ss) ∙ pieces_of-append (parts_of ss) (part_of s ∷ [])
  where
    mapped : (ss : List (Segment Hole)) → parts_of (ss ++ s ∷ []) ≡ parts_of ss ++ part_of s ∷ []
    mapped [] = refl
    mapped (t ∷ ts) = ap (λ l. part_of t ∷ l) (mapped ts)

pub joins_part : (fill : Filling) (counts : Hole → ℕ) (v : Visit) (ss : List (Segment Hole)) (i : ℕ) (s : Segment Hole) (old mid new : Filled) → i < length ss → s ≡ get_or ss i s → Joins fill counts v (pieces_of (parts_of (take i ss))) old mid → Joins fill counts v (pieces_of (part_of s ∷ [])) mid new → Joins fill counts v (pieces_of (parts_of (take (i + 1) ss))) old new
joins_part fill counts v ss i s old mid new within is first second =
    rw ((take_at_read ss i s within).1)
    (subst (λ p. Joins fill counts v p old new) (sym (parts_append (take i ss) (get_or ss i s)))
    (joins_then fill counts v (pieces_of (parts_of (take i ss))) (pieces_of (part_of (get_or ss i s) ∷ [])) old mid new first
    (subst (λ t. Joins fill counts v (pieces_of (part_of t ∷ [])) mid new) is second)))

pub joins_all : (fill : Filling) (counts : Hole → ℕ) (v : Visit) (ss : List (Segment Hole)) (i : ℕ) (old new : Filled) → Joins fill counts v (pieces_of (parts_of (take i ss))) old new → length ss ≤ i → Joins fill counts v (pieces_of (parts_of ss)) old new
joins_all fill counts v ss i old new joins over = subst (λ l. Joins fill counts v (pieces_of (parts_of l)) old new) (take_all i ss over) joins

-- what was built, its places filled in, is whole
pub whole_of : (fill : Filling) (counts : Hole → ℕ) (v : Visit) (p : Plan (Option ℕ)) (b : Built) (old new : Filled) → Builds p v b → pieces_of old.segments ≡ [] → old.libraries.items ≡ b.libraries → old.cacheability ≡ b.cacheability → old.last ≡ b.last → old.status ≡ b.status → old.built ≡ 1 → Joins fill counts v (pieces_of b.segments) old new → IsWhole (filled_in fill p) v (count_with counts v p) new
whole_of fill counts v p b old new builds segments libraries cacheability last status one joins = record {
  makes = record {
    attached = makes.attached;
    made = subst (λ s. Made (filled_in fill p) v s (pieces_of new.segments) makes.attached (needs_of new)) (sym (joins.status ∙ status))
        (subst (λ s. Made (filled_in fill p) v b.status s makes.attached (needs_of new)) (sym shown_is) makes.made);
    same = same_trans makes.attached (b.libraries ++ joins.attached) new.libraries.items makes.same
        (subst (λ l. SameMembers (l ++ joins.attached) new.libraries.items) libraries (record { there = joins.libraries.back; back = joins.libraries.there }));
  };
  not_over = joins.not_over (subst (λ n. v.moment ≤ n) (sym last) builds.not_over);
  exact = tells_filled fill v p old.cacheability new.cacheability
      (subst (λ (c : Cacheability). TellsExactly p v c) (sym cacheability) builds.exact)
      (subst (λ hs. TellsMore (met_in fill v hs) old.cacheability new.cacheability) builds.places joins.told);
  counted = joins.counted 1 one ∙ ap (λ l. min (1 + sum_by counts l) 18446744073709551615) builds.places;
}
  where
    kept : Keeps (needs_built b) (needs_of new)
    kept = subst (λ (n : Needs). Keeps n (needs_of new)) (λ i. record { tags = (cacheability i).tags; contexts = (cacheability i).contexts; last = last i }) joins.kept

    makes : MakesWhole (filled_in fill p) v b.status joins.shown (b.libraries ++ joins.attached) (needs_of new)
    makes = filled fill p v b.status (pieces_of b.segments) b.libraries (needs_of new) joins.shown joins.attached
        (Made-kept p v b.status (pieces_of b.segments) b.libraries (needs_built b) (needs_of new) kept builds.made) joins.fills

    shown_is : pieces_of new.segments ≡ joins.shown
    shown_is = joins.appended ∙ ap (λ l. l ++ joins.shown) segments

-- bytes and a place behind segments
pub more_bytes : (ps qs : List (Part Hole)) (t u : List ℕ) → qs ≡ ps ++ Text u ∷ [] → u ≡ t → pieces_of qs ≡ pieces_of ps ++ bytes t
more_bytes ps qs t u e same = finished ps qs t u e same

pub more_place : (ps qs : List (Part Hole)) (h : Hole) → qs ≡ ps ++ Open h ∷ [] → pieces_of qs ≡ pieces_of ps ++ Place h ∷ []
more_place ps qs h e = ap pieces_of e ∙ pieces_of-append ps (Open h ∷ [])
