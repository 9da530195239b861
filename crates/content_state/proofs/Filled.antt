-- What a plan makes, its places filled in, is made by the plan whose places are filled in.
use Rattle.std.proofs.Common.{ℕ, zero, suc, List, [], ◌∷◌, ◌++◌, ◌≡◌, ◌⊎◌, refl, sym, ◌∙◌, ap, subst, arith, inl, inr, Option, Some, None, Contains}
use Rattle.content_state.specs.declared.element.Hole.{Hole}
use Rattle.content_state.specs.declared.element.Library.{Library}
use Rattle.content_state.specs.Read.{answer}
use Rattle.content_state.specs.Context.{Visit, value}
use Rattle.content_state.specs.Plan.{Piece, Byte, bytes, Plan, Done, Write, Attach, Reading, Asking, Clock, Part, ◌>>◌, Needs, Made}
use Rattle.content_state.proofs.Made.{Made-then}
use Rattle.content_state.specs.Places.{Filling, at_place, filled_in, FillsPlace, Fills, SameMembers, MakesWhole}

pub in_append : {A : Type 0} (xs ys : List A) (x : A) → Contains (xs ++ ys) x → Contains xs x ⊎ Contains ys x
in_append [] ys x h = inr h
in_append (y ∷ xs) ys x (zero, l, e) = inl (0, omega arith, e)
in_append (y ∷ xs) ys x (suc i, l, e) = elim (in_append xs ys x (i, (omega arith), e)) [ inl a ↦ inl (suc a.0, (let k = a.1 in omega arith), a.2) | inr b ↦ inr b ]

pub in_left : {A : Type 0} (xs ys : List A) (x : A) → Contains xs x → Contains (xs ++ ys) x
in_left [] ys x h = absurd (let l = h.1 in omega arith)
in_left (y ∷ xs) ys x (zero, l, e) = (0, omega arith, e)
in_left (y ∷ xs) ys x (suc i, l, e) = let r = in_left xs ys x (i, (omega arith), e) in (suc r.0, (let k = r.1 in omega arith), r.2)

pub in_right : {A : Type 0} (xs ys : List A) (x : A) → Contains ys x → Contains (xs ++ ys) x
in_right [] ys x h = h
in_right (y ∷ xs) ys x h = let r = in_right xs ys x h in (suc r.0, (let k = r.1 in omega arith), r.2)

pub same_refl : {A : Type 0} (xs : List A) → SameMembers xs xs
same_refl xs = record { there = λ x h. h; back = λ x h. h }

pub same_trans : {A : Type 0} (xs ys zs : List A) → SameMembers xs ys → SameMembers ys zs → SameMembers xs zs
same_trans xs ys zs a b = record { there = λ x h. b.there x (a.there x h); back = λ x h. a.back x (b.back x h) }

-- l ++ a has the members of b ++ (l ++ c), where a has those of b ++ c
between : {A : Type 0} (l a b c : List A) → SameMembers a (b ++ c) → SameMembers (l ++ a) (b ++ (l ++ c))
between l a b c same = record {
  there = λ x h. elim (in_append l a x h) [
    | inl g ↦ in_right b (l ++ c) x (in_left l c x g)
    | inr g ↦ elim (in_append b c x (same.there x g)) [ inl k ↦ in_left b (l ++ c) x k | inr k ↦ in_right b (l ++ c) x (in_right l c x k) ]
  ];
  back = λ x h. elim (in_append b (l ++ c) x h) [
    | inl g ↦ in_right l a x (same.back x (in_left b c x g))
    | inr g ↦ elim (in_append l c x g) [ inl k ↦ in_left l a x k | inr k ↦ in_right l a x (same.back x (in_right b c x k)) ]
  ];
}

-- the same libraries before and behind
pub same_after : {A : Type 0} (l a b : List A) → SameMembers a b → SameMembers (l ++ a) (l ++ b)
same_after l a b same = record {
  there = λ x h. elim (in_append l a x h) [ inl g ↦ in_left l b x g | inr g ↦ in_right l b x (same.there x g) ];
  back = λ x h. elim (in_append l b x h) [ inl g ↦ in_left l a x g | inr g ↦ in_right l a x (same.back x g) ];
}

module _ (fill : Filling) (v : Visit) (needs : Needs) where
  record Skips (bs : List ℕ) (outer shown : List Piece) (attached : List Library) : Type 0 where
    rest : List Piece
    shown_is : shown ≡ bytes bs ++ rest
    fills : Fills fill v needs outer rest attached

  skip : (bs : List ℕ) (outer shown : List Piece) (attached : List Library) → Fills fill v needs (bytes bs ++ outer) shown attached → Skips bs outer shown attached
  skip [] outer shown attached fills = record { rest = shown; shown_is = refl; fills = fills }
  skip (b ∷ bs) outer shown attached fills =
      let s = skip bs outer fills.0 attached fills.2 in
      record { rest = s.rest; shown_is = fills.1 ∙ ap (λ x. Byte b ∷ x) s.shown_is; fills = s.fills }

  -- what stands in one place, and the rest
  at_one : {A : Type 0} (o : Option (Plan (Option ℕ))) (h : Hole) (k : Plan A) (x : A) (left shown : List Piece) (libraries attached : List Library)
      → ((rest : List Piece) (others : List Library) → Fills fill v needs left rest others → MakesWhole (filled_in fill k) v x rest (libraries ++ others) needs)
      → FillsPlace o v needs h (Fills fill v needs left) shown attached
      → MakesWhole (at_place o h (filled_in fill k)) v x shown (libraries ++ attached) needs
  at_one None h k x left shown libraries attached rest_of f =
      let w = rest_of f.rest attached f.follows in record { attached = w.attached; made = (f.rest, f.shown_is, w.made); same = w.same }
  at_one (Some child) h k x left shown libraries attached rest_of f =
      let w = rest_of f.rest f.others f.follows in
      record {
        attached = f.libraries ++ w.attached;
        made = subst (λ s. Made (child >> filled_in fill k) v x s (f.libraries ++ w.attached) needs) (sym f.shown_is)
            (Made-then child (λ _. filled_in fill k) v f.status x f.own f.rest f.libraries w.attached needs f.made w.made);
        same = subst (λ m. SameMembers (f.libraries ++ w.attached) (libraries ++ m)) (sym f.attached_is) (between f.libraries w.attached libraries f.others w.same);
      }

pub filled : {A : Type 0} (fill : Filling) (p : Plan A) (v : Visit) (x : A) (outer : List Piece) (libraries : List Library) (needs : Needs) (shown : List Piece) (attached : List Library) → Made p v x outer libraries needs → Fills fill v needs outer shown attached → MakesWhole (filled_in fill p) v x shown (libraries ++ attached) needs
filled fill (Done a) v x outer libraries needs shown attached made fills =
    let f : Fills fill v needs [] shown attached = subst (λ o. Fills fill v needs o shown attached) made.1 fills in
    record { attached = []; made = (made.0, f.0, refl); same = subst (λ l. SameMembers [] (l ++ attached)) (sym made.2) (subst (λ m. SameMembers [] m) (sym f.1) (same_refl [])) }
filled fill (Write bs k) v x outer libraries needs shown attached made fills =
    let s = skip fill v needs bs made.0 shown attached (subst (λ o. Fills fill v needs o shown attached) made.1 fills) in
    let w = filled fill k v x made.0 libraries needs s.rest attached made.2 s.fills in
    record { attached = w.attached; made = (s.rest, s.shown_is, w.made); same = w.same }
filled fill (Attach l k) v x outer libraries needs shown attached made fills =
    let w = filled fill k v x outer made.0 needs shown attached made.2 fills in
    record { attached = l ∷ w.attached; made = (w.attached, refl, w.made); same = subst (λ ls. SameMembers (l ∷ w.attached) (ls ++ attached)) (sym made.1) (same_after (l ∷ []) w.attached (made.0 ++ attached) w.same) }
filled fill (Reading r k) v x outer libraries needs shown attached made fills =
    let w = filled fill (k (answer v.rows r)) v x outer libraries needs shown attached made.1 fills in
    record { attached = w.attached; made = (made.0, w.made); same = w.same }
filled fill (Asking c k) v x outer libraries needs shown attached made fills =
    let w = filled fill (k (value v c)) v x outer libraries needs shown attached made.1 fills in
    record { attached = w.attached; made = (made.0, w.made); same = w.same }
filled fill (Clock age k) v x outer libraries needs shown attached made fills =
    let w = filled fill (k made.0) v x outer libraries needs shown attached made.3 fills in
    record { attached = w.attached; made = (made.0, made.1, made.2, w.made); same = w.same }
filled fill (Part h k) v x outer libraries needs shown attached made fills =
    let f : FillsPlace (fill h) v needs h (Fills fill v needs made.0) shown attached = subst (λ o. Fills fill v needs o shown attached) made.1 fills in
    at_one fill v needs (fill h) h k x made.0 shown libraries attached (λ rest others g. filled fill k v x made.0 libraries needs rest others made.2 g) f
