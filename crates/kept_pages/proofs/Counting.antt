-- What was needed, and how many were built.
use Rattle.std.proofs.Common.{ℕ, zero, suc, List, [], ◌∷◌, ◌++◌, ◌≡◌, ◌≤◌, ◌<◌, ◌+◌, min, Bool, true, false, refl, sym, ◌∙◌, ap, subst, arith, take, take_all, length, get_or, Option, Some, None, IfSome, option_map, inl, inr}
use Rattle.std.specs.Arc.{arc_value}
use Rattle.std.specs.declared.sync.Arc.{Arc}
use Rattle.std.specs.declared.alloc.Global.{Global}
use Rattle.std.specs.Prelude.{◌==◌}
use Rattle.std.specs.List.{flat_map}
use Rattle.cacheability.specs.declared.cacheability.Cacheability.{Cacheability}
use Rattle.cacheability.specs.declared.context.Context.{Context}
use Rattle.cacheability.specs.declared.tag.Tag.{Tag}
use Rattle.std.proofs.lemmas.Bool.Decides.{eqb_tells}
use Rattle.std.proofs.lemmas.Grind.{take_at_read, flat_map-append}
use Rattle.html_out.specs.declared.part.Segment.{Segment}
use Rattle.html_out.specs.Segment.{part_of, parts_of}
use Rattle.content_state.specs.declared.element.Fragment.{Fragment}
use Rattle.content_state.specs.declared.element.Hole.{Hole}
use Rattle.content_state.specs.declared.element.Hole.TheVariants as hole
use Rattle.content_state.specs.Context.{Visit}
use Rattle.content_state.specs.Met.{Met, met_nothing, met_tags, met_both, met}
use Rattle.content_state.specs.Plan.{bytes, Place, Plan, Done as Gives, ◌>>◌}
use Rattle.content_state.specs.Places.{open_places}
use Rattle.cache_entries.specs.declared.entry.Entry.{Entry}
use Rattle.cache_entries.specs.declared.key.Subject.{Subject}
use Rattle.cache_entries.specs.declared.key.Subject.TheVariants as subject
use Rattle.cache_entries.specs.declared.kept.Bin.{Bin}
use Rattle.cache_entries.specs.declared.kept.Bin.TheVariants as bin
use Rattle.cache_entries.specs.Entries.{IsHere}
use Rattle.page_meaning.specs.Meaning.{meaning}
use Rattle.render_canvas.specs.Board.{pieces_of}
use Rattle.render_canvas.proofs.BoardLaws.{places-append, places_of_bytes}
use Rattle.render_array.specs.Built.{fragment_shown}
use Rattle.render_array.specs.Whole.{level, fragment_level}
use Rattle.renderer.proofs.Joining.{parts_append}
use Rattle.renderer.proofs.Standing.{lower_yet, not_lower, not_this, over_too}
use Rattle.kept_pages.specs.declared.joining.Begun.{Begun}
use Rattle.kept_pages.specs.Joins.{Begins, StaysOpen, Appends, Takes, AsksLazy}
use Rattle.kept_pages.specs.Needed.{Visits, InPlaces, met_fragment, FragmentBy, OfFragment, OfPlace, either_shape, NeededBelow, stays_lazy, NeededInFrame, InFrame, tags_asked, met_in_frame, OfFrame, InHoles, OfWhole, OfTarget}
use Rattle.kept_pages.specs.Went.{Went, Done, Found, Built, then_went, number_built, entries_in, OfElement, TakesIn, GathersIn}
use Rattle.kept_pages.specs.Held.{Shelves, IsTold, StaysKept, HeldBy, IsToldBy, SeenIn, Closes, Goes, Tells, BuiltUp}
use Rattle.kept_pages.specs.declared.looking.Seen.{Seen}
use Rattle.kept_pages.proofs.Shelves.{stays-refl, stays-then}
use Rattle.kept_pages.proofs.Using.{stays_back, stays_held, goes_to}
use Rattle.kept_pages.proofs.Taking.{takes_then, takes_none, takes_child, takes_asked, gathers_met, gathers_asked, gathers_whole, says_of}
use Rattle.element_entries.specs.declared.making.Joined.{Joined}
use Rattle.element_entries.specs.Readers.{Reader}
use Rattle.element_entries.specs.Keys.{visit}
use Rattle.element_entries.specs.Making.{Bubbles}
use Rattle.site_house.specs.House.{HouseView}

-- one after the other
pub then_done : (t : Went) → then_went t Done ≡ t
then_done Done = refl
then_done (Found b s e rest) = ap (λ r. Found b s e r) (then_done rest)
then_done (Built b s e inner rest) = ap (λ r. Built b s e inner r) (then_done rest)

then_assoc : (t u w : Went) → then_went (then_went t u) w ≡ then_went t (then_went u w)
then_assoc Done u w = refl
then_assoc (Found b s e rest) u w = ap (λ r. Found b s e r) (then_assoc rest u w)
then_assoc (Built b s e inner rest) u w = ap (λ r. Built b s e inner r) (then_assoc rest u w)

pub number_then : (t u : Went) → number_built (then_went t u) ≡ number_built t + number_built u
number_then Done u = omega arith
number_then (Found b s e rest) u = number_then rest u
number_then (Built bin.Fragments s e inner rest) u = let more = number_then rest u in omega arith
number_then (Built bin.Dynamic s e inner rest) u = let more = number_then rest u in omega arith
number_then (Built bin.Anonymous s e inner rest) u = let more = number_then rest u in omega arith

visits_then : (At : Hole → Went → Type 0) (hs gs : List Hole) (t u : Went) → Visits At hs t → Visits At gs u → Visits At (hs ++ gs) (then_went t u)
visits_then At [] gs t u first second = subst (λ r. Visits At gs (then_went r u)) (sym first) second
visits_then At (h ∷ hs) gs t u first second = record {
  one = first.one;
  rest = then_went first.rest u;
  is = ap (λ r. then_went r u) first.is ∙ then_assoc first.one first.rest u;
  first = first.first;
  others = visits_then At hs gs first.rest u first.others second;
}

pub visits_one : (At : Hole → Went → Type 0) (h : Hole) (t : Went) → At h t → Visits At (h ∷ []) t
visits_one At h t at = record { one = t; rest = Done; is = sym (then_done t); first = at; others = refl }

-- ---- counts up to the greatest u64

none_more : (built count : ℕ) → built ≡ min count 18446744073709551615 → built ≡ min (count + 0) 18446744073709551615
none_more built count is = omega arith

both_more : (d count m n k : ℕ) → d ≡ min ((count + m) + n) 18446744073709551615 → k ≡ m + n → d ≡ min (count + k) 18446744073709551615
both_more d count m n k is same = omega arith

child_more : (child old new count n : ℕ) → new ≡ min (old + child) 18446744073709551615 → old ≡ min count 18446744073709551615 → child ≡ min (0 + n) 18446744073709551615 → new ≡ min (count + n) 18446744073709551615
child_more child old new count n sum same told = omega arith

one_more : (built count n : ℕ) → 0 ≡ min count 18446744073709551615 → built ≡ min n 18446744073709551615 → built ≡ min (count + n) 18446744073709551615
one_more built count n is told = omega arith

-- ---- what became of what is kept

told_back : (r : Reader) (a b : Shelves) → StaysKept a b → (d : Bin) (x : Subject) (told : Option (List Context)) → IsToldBy r b d x told → IsToldBy r a d x told
told_back r a b stays d x None none = λ two c h. none two c ((stays.things d).there _ h)
told_back r a b stays d x (Some c) (two, alone) = (two, record { there = (stays.things d).back _ alone.there; only = λ other h. alone.only other ((stays.things d).there _ h) })

goes_after : (r : Reader) (a b : Shelves) (t : Went) (c : Shelves) → StaysKept a b → Goes r b t c → Goes r a t c
goes_after r a b Done c stays g = stays-then a b c stays g
goes_after r a b (Found d x e rest) c stays (h, (mid, s, g)) = (stays_back r a b stays d x e h, (mid, stays-then a b mid stays s, g))
goes_after r a b (Built d x e inner rest) c stays (h, (told, looked, filled, kept, t, s, g, closes, k)) =
    ((λ held. h (stays_held r a b stays d x held)), (told, looked, filled, kept, told_back r a b stays d x told t, stays-then a b looked stays s, g, closes, k))

goes_then : (r : Reader) (a : Shelves) (t : Went) (b : Shelves) (u : Went) (c : Shelves) → Goes r a t b → Goes r b u c → Goes r a (then_went t u) c
goes_then r a Done b u c g k = goes_after r a b u c g k
goes_then r a (Found d x e rest) b u c (h, (mid, s, g)) k = (h, (mid, s, goes_then r mid rest b u c g k))
goes_then r a (Built d x e inner rest) b u c (h, (told, looked, filled, kept, t, s, g, closes, l)) k = (h, (told, looked, filled, kept, t, s, g, closes, goes_then r kept rest b u c l k))

-- ---- what is told

pub tells_none : (r : Reader) (Shape : Went → Type 0) (house : HouseView) (built : ℕ) → Shape Done → Tells r Shape house house built built
tells_none r Shape house built shape = record {
  tree = Done;
  shape = shape;
  counted = λ count is. none_more built count is;
  goes = λ s told. goes_to r s Done house s told (stays-refl s);
}

pub tells_map : (r : Reader) (One Two : Went → Type 0) (old new : HouseView) (built built' : ℕ) → ((t : Went) → One t → Two t) → Tells r One old new built built' → Tells r Two old new built built'
tells_map r One Two old new built built' f t = record { tree = t.tree; shape = f t.tree t.shape; counted = t.counted; goes = t.goes }

tells_then : (r : Reader) (One Two Both : Went → Type 0) (old mid new : HouseView) (a b d : ℕ) → ((t u : Went) → One t → Two u → Both (then_went t u)) → Tells r One old mid a b → Tells r Two mid new b d → Tells r Both old new a d
tells_then r One Two Both old mid new a b d both first second = record {
  tree = then_went first.tree second.tree;
  shape = both first.tree second.tree first.shape second.shape;
  counted = λ count is.
      both_more d count (number_built first.tree) (number_built second.tree) (number_built (then_went first.tree second.tree))
      (second.counted (count + number_built first.tree) (first.counted count is)) (number_then first.tree second.tree);
  goes = λ s told.
      let g = first.goes s told in
      let k = second.goes g.after g.is in
      goes_to r s (then_went first.tree second.tree) new k.after k.is (goes_then r s first.tree g.after second.tree k.after g.goes k.goes);
}

-- what a child was built of is taken in
pub tells_child : (r : Reader) (Shape : Went → Type 0) (house house' : HouseView) (child old new : ℕ) → new ≡ min (old + child) 18446744073709551615 → Tells r Shape house house' 0 child → Tells r Shape house house' old new
tells_child r Shape house house' child old new is t = record {
  tree = t.tree;
  shape = t.shape;
  counted = λ count same. child_more child old new count (number_built t.tree) is same (t.counted 0 refl);
  goes = t.goes;
}

-- what was built of what this needed, and offered, where so many were built at first, and what an entry says of it
pub built_up : (r : Reader) (own : Met) (Inner : Went → Type 0) (b : Bin) (s : Subject) (told : Option (List Context)) (needed : Cacheability) (e : Entry) (old mid new : HouseView) (first built built' : ℕ) → first ≡ min first 18446744073709551615
    → ((t : Went) → first + number_built t ≡ number_built (Built b s e t Done)) → built' ≡ built → Bubbles (visit r) needed e.cacheability → Tells r (GathersIn Inner own needed) old mid first built
    → ((shelves : Shelves) → IsTold mid shelves → Closes r shelves b s told e new) → BuiltUp r own Inner b s told e old new built'
built_up r own Inner b s told needed e old mid new first built built' within counts same bubbles t closes = record {
  inner = t.tree;
  of_places = t.shape.shape;
  says = says_of (visit r) own (entries_in t.tree) needed e t.shape.gathers bubbles;
  counted = same ∙ t.counted first within ∙ ap (λ n. min n 18446744073709551615) (counts t.tree);
  goes = λ shelves is. let g = t.goes shelves is in record { filled = g.after; goes = g.goes; closes = closes g.after g.is };
}

-- the page itself is counted, and so is a fragment; that the whole page was put together is not
pub counts_fragment : (s : Subject) (e : Entry) (t : Went) → 1 + number_built t ≡ number_built (Built bin.Fragments s e t Done)
counts_fragment s e t = omega arith

pub counts_frame : (s : Subject) (e : Entry) (t : Went) → 1 + number_built t ≡ number_built (Built bin.Dynamic s e t Done)
counts_frame s e t = omega arith

pub counts_target : (s : Subject) (e : Entry) (t : Went) → 0 + number_built t ≡ number_built (Built bin.Anonymous s e t Done)
counts_target s e t = omega arith

-- what wasn't found
pub tells_built : (r : Reader) (own : Met) (Inner : Went → Type 0) (b : Bin) (s : Subject) (e : Entry) (seen : Seen) (told : Option (List Context)) (old mid new : HouseView) (built : ℕ) → seen.entry ≡ None → told ≡ option_map arc_value seen.told
    → ((shelves : Shelves) → IsTold old shelves → SeenIn r shelves b s seen mid)
    → BuiltUp r own Inner b s told e mid new built → Tells r (OfElement (visit r) own Inner b s e) old new 0 built
tells_built r own Inner b s e seen told old mid new built none same looked t = record {
  tree = Built b s e t.inner Done;
  shape = inr (record { inner = t.inner; of_places = t.of_places; says = t.says; is = refl });
  counted = λ count is. one_more built count (number_built (Built b s e t.inner Done)) is t.counted;
  goes = λ shelves is.
      let l = looked shelves is in
      let g = t.goes l.after l.is in
      goes_to r shelves (Built b s e t.inner Done) new g.closes.after g.closes.is (
        l.not_held none,
        (
          told,
          l.after,
          g.filled,
          g.closes.after,
          subst (IsToldBy r shelves b s) (sym same) l.told,
          l.stays,
          g.goes,
          record { rises = g.closes.rises; either = g.closes.either },
          stays-refl g.closes.after,
        ),
      );
}

-- what was
pub tells_found : (r : Reader) (own : Met) (Inner : Went → Type 0) (b : Bin) (s : Subject) (e : Arc Entry Global) (seen : Seen) (old new : HouseView) → seen.entry ≡ Some e
    → ((shelves : Shelves) → IsTold old shelves → SeenIn r shelves b s seen new) → Tells r (OfElement (visit r) own Inner b s (arc_value e)) old new 0 0
tells_found r own Inner b s e seen old new is looked = record {
  tree = Found b s (arc_value e) Done;
  shape = inl refl;
  counted = λ count none. none_more 0 count none;
  goes = λ shelves told.
      let l = looked shelves told in
      goes_to r shelves (Found b s (arc_value e) Done) new l.after l.is
      (subst (λ (o : Option (Arc Entry Global)). IfSome o (λ x. HeldBy r shelves b s (arc_value x))) is l.held, (l.after, l.stays, stays-refl l.after));
}

-- the whole page of a target
pub tells_target : (r : Reader) (e : Entry) (old new : HouseView) (built : ℕ) → Tells r (OfElement (visit r) met_nothing (OfWhole r.ask.path (visit r)) bin.Anonymous (subject.Target r.ask.target) e) old new 0 built → Tells r (OfTarget (visit r)) old new 0 built
tells_target r e old new built t =
    tells_map r (OfElement (visit r) met_nothing (OfWhole r.ask.path (visit r)) bin.Anonymous (subject.Target r.ask.target) e) (OfTarget (visit r)) old new 0 built (λ u of. record { entry = e; element = of }) t

-- a page as it is kept for whoever views it, and what stands in the places that are open there
pub tells_whole : (r : Reader) (path : List ℕ) (v : Visit) (page : Entry) (filled : Cacheability) (old mid new : HouseView) (a b : ℕ) → IsHere meaning (subject.Page path) v page → Tells r (OfFrame path v page) old mid 0 a
    → Tells r (TakesIn (InHoles v page) [] page.cacheability filled) mid new a b → Tells r (GathersIn (OfWhole path v) met_nothing filled) old new 0 b
tells_whole r path v page filled old mid new a b here first second =
    tells_then r (OfFrame path v page) (TakesIn (InHoles v page) [] page.cacheability filled) (GathersIn (OfWhole path v) met_nothing filled) old mid new 0 a b
    (λ t u of takes.
    gathers_whole v (met_in_frame path v) (InFrame path v) bin.Dynamic (subject.Page path) page (InHoles v page) (OfWhole path v) filled t u
    (λ frame others. record { page = page; here = here; both = record { one = t; rest = u; is = refl; first = frame; others = others } }) of takes) first second

-- of it, what was needed
pub tells_needed : (r : Reader) (Shape : Went → Type 0) (own : Met) (filled : Cacheability) (old new : HouseView) (a b : ℕ) → Tells r (GathersIn Shape own filled) old new a b → Tells r Shape old new a b
tells_needed r Shape own filled old new a b t = tells_map r (GathersIn Shape own filled) Shape old new a b (λ u g. g.shape) t

-- ---- what is needed in a place, by its level

pub needed_lower : (k l : ℕ) (v : Visit) (h : Hole) (t : Went) → level h ≡ l → l < k → OfPlace (NeededBelow l v) v h t → NeededBelow k v h t
needed_lower zero l v h t is lower of = absurd (not_lower l lower)
needed_lower (suc k) l v h t is lower of = elim (eqb_tells (level h) k) [
  | inl e ↦ subst (λ b. either_shape b (OfPlace (NeededBelow k v) v h) (NeededBelow k v h) t) (sym e.0)
      (subst (λ j. OfPlace (NeededBelow j v) v h t) (sym is ∙ e.1) of)
  | inr e ↦ subst (λ b. either_shape b (OfPlace (NeededBelow k v) v h) (NeededBelow k v h) t) (sym e.0)
      (needed_lower k l v h t is (lower_yet k l (level h) is lower e.1) of)
]

none_of : (b : Bool) (At Rest : Went → Type 0) → At Done → Rest Done → either_shape b At Rest Done
none_of true At Rest at rest = at
none_of false At Rest at rest = rest

open_meta : (k : ℕ) (v : Visit) → NeededBelow k v hole.Meta Done
open_meta zero v = refl
open_meta (suc k) v = none_of (0 == k) (OfPlace (NeededBelow k v) v hole.Meta) (NeededBelow k v hole.Meta) refl (open_meta k v)

open_above : (k : ℕ) (v : Visit) (h : Hole) → k ≤ level h → NeededBelow k v h Done
open_above zero v h over = refl
open_above (suc k) v h over = elim (eqb_tells (level h) k) [
  | inl e ↦ absurd (not_this k (level h) over e.1)
  | inr e ↦ subst (λ b. either_shape b (OfPlace (NeededBelow k v) v h) (NeededBelow k v h) Done) (sym e.0) (open_above k v h (over_too k (level h) over))
]

needed_open : (below : ℕ) (v : Visit) (h : Hole) → StaysOpen below h → NeededBelow below v h Done
needed_open below v h (inl is) = subst (λ x. NeededBelow below v x Done) (sym is) (open_meta below v)
needed_open below v h (inr over) = open_above below v h over

-- ---- part by part

-- nothing was needed, and what was told is as it was
tells_same : (r : Reader) (Shape : Went → Type 0) (house : HouseView) (old new : Joined) (built : ℕ) → Shape Done → new.cacheability ≡ old.cacheability → Tells r (TakesIn Shape [] old.cacheability new.cacheability) house house built built
tells_same r Shape house old new built shape same = tells_none r (TakesIn Shape [] old.cacheability new.cacheability) house built (takes_none Shape old.cacheability new.cacheability shape same)

no_places : (bs : List ℕ) → open_places (bytes bs ++ []) ≡ []
no_places bs = places-append (bytes bs) [] ∙ ap (λ hs. hs ++ []) (places_of_bytes bs)

pub told_bytes : (r : Reader) (At : Hole → Went → Type 0) (house : HouseView) (bs : List ℕ) (old new : Joined) (built : ℕ) → Appends (bytes bs) old new
    → Tells r (TakesIn (Visits At (open_places (bytes bs ++ []))) [] old.cacheability new.cacheability) house house built built
told_bytes r At house bs old new built a = tells_same r (Visits At (open_places (bytes bs ++ []))) house old new built (subst (λ hs. Visits At hs Done) (sym (no_places bs)) refl) a.cacheability

pub told_open : (r : Reader) (below : ℕ) (v : Visit) (house : HouseView) (h : Hole) (old new : Joined) (built : ℕ) → StaysOpen below h → Appends (Place h ∷ []) old new
    → Tells r (TakesIn (Visits (NeededBelow below v) (h ∷ [])) [] old.cacheability new.cacheability) house house built built
told_open r below v house h old new built stays a = tells_same r (Visits (NeededBelow below v) (h ∷ [])) house old new built (visits_one (NeededBelow below v) h Done (needed_open below v h stays)) a.cacheability

pub told_child : (r : Reader) (below : ℕ) (v : Visit) (house house' : HouseView) (h : Hole) (f : Fragment) (e : Entry) (was now : Joined) (child old new : ℕ) → h ≡ hole.Fragment f → fragment_level f < below → new ≡ min (old + child) 18446744073709551615
    → Takes e was now → Tells r (FragmentBy (NeededBelow (fragment_level f) v) v f e) house house' 0 child → Tells r (TakesIn (Visits (NeededBelow below v) (h ∷ [])) [] was.cacheability now.cacheability) house house' old new
told_child r below v house house' h f e was now child old new is lower sum takes t =
    subst (λ x. Tells r (TakesIn (Visits (NeededBelow below v) (x ∷ [])) [] was.cacheability now.cacheability) house house' old new) (sym is)
    (tells_map r (FragmentBy (NeededBelow (fragment_level f) v) v f e) (TakesIn (Visits (NeededBelow below v) (hole.Fragment f ∷ [])) [] was.cacheability now.cacheability) house house' old new
    (λ u of.
    takes_child v (met_fragment f v) (InPlaces (NeededBelow (fragment_level f) v) v (fragment_shown f >> Gives None)) bin.Fragments (subject.Fragment f) e (Visits (NeededBelow below v) (hole.Fragment f ∷ [])) was now u
    (λ fragment_of. visits_one (NeededBelow below v) (hole.Fragment f) u (needed_lower below (fragment_level f) v (hole.Fragment f) u refl lower (record { entry = e; element = fragment_of }))) takes of)
    (tells_child r (FragmentBy (NeededBelow (fragment_level f) v) v f e) house house' child old new sum t))

-- a fragment of a page
pub told_fragment : (r : Reader) (v : Visit) (house house' : HouseView) (f : Fragment) (e : Entry) (was now : Joined) (child old new : ℕ) → new ≡ min (old + child) 18446744073709551615 → Takes e was now
    → Tells r (FragmentBy (NeededBelow (fragment_level f) v) v f e) house house' 0 child → Tells r (TakesIn (OfFragment (NeededBelow (fragment_level f) v) v f) [] was.cacheability now.cacheability) house house' old new
told_fragment r v house house' f e was now child old new sum takes t =
    tells_map r (FragmentBy (NeededBelow (fragment_level f) v) v f e) (TakesIn (OfFragment (NeededBelow (fragment_level f) v) v f) [] was.cacheability now.cacheability) house house' old new
    (λ u of.
    takes_child v (met_fragment f v) (InPlaces (NeededBelow (fragment_level f) v) v (fragment_shown f >> Gives None)) bin.Fragments (subject.Fragment f) e (OfFragment (NeededBelow (fragment_level f) v) v f) was now u
    (λ fragment_of. record { entry = e; element = fragment_of }) takes of)
    (tells_child r (FragmentBy (NeededBelow (fragment_level f) v) v f e) house house' child old new sum t)

-- what was begun has the places that its plan leaves open, and told what this met
module _ (r : Reader) (At : Hole → Went → Type 0) (p : Plan (Option ℕ)) (v : Visit) (begun : Begun) (filled : Cacheability) (old new : HouseView) (built : ℕ) (begins : Begins p v begun) where
  abbrev Taking : List Tag → List Hole → Went → Type 0
  Taking asked places = TakesIn (Visits At places) asked begun.filled.joined.cacheability filled

  pub begun_told : Tells r (Taking [] (open_places (pieces_of begun.segments))) old new begun.filled.built built → Tells r (GathersIn (InPlaces At v p) (met p v) filled) old new 1 built
  begun_told t =
      tells_map r (Taking [] (met p v).places) (GathersIn (InPlaces At v p) (met p v) filled) old new 1 built
      (λ u takes. gathers_met (InPlaces At v p) p v begun.filled.joined.cacheability filled u begins.exact takes)
      (subst (λ n. Tells r (Taking [] (met p v).places) old new n built) begins.one
      (subst (λ hs. Tells r (Taking [] hs) old new begun.filled.built built) begins.places t))

  pub begun_asked : (asked : Hole → List Tag) → Tells r (Taking (flat_map asked (open_places (pieces_of begun.segments))) (open_places (pieces_of begun.segments))) old new begun.filled.built built
      → Tells r (GathersIn (InPlaces At v p) (met_both (met_tags (flat_map asked (met p v).places)) (met p v)) filled) old new 1 built
  begun_asked asked t =
      tells_map r (Taking (flat_map asked (met p v).places) (met p v).places) (GathersIn (InPlaces At v p) (met_both (met_tags (flat_map asked (met p v).places)) (met p v)) filled) old new 1 built
      (λ u takes. gathers_asked (InPlaces At v p) p v begun.filled.joined.cacheability filled u begins.exact (flat_map asked (met p v).places) takes)
      (subst (λ n. Tells r (Taking (flat_map asked (met p v).places) (met p v).places) old new n built) begins.one
      (subst (λ hs. Tells r (Taking (flat_map asked hs) hs) old new begun.filled.built built) begins.places t))

-- in a page that is kept for whoever views it
shape_of : (b b' : Bool) (One Other : Went → Type 0) (t : Went) → b' ≡ b → either_shape b One Other t → either_shape b' One Other t
shape_of b b' One Other t is of = subst (λ x. either_shape x One Other t) (sym is) of

abbrev InShared : Visit → List Hole → Joined → Joined → Went → Type 0
InShared v hs old new = TakesIn (Visits (NeededInFrame v) hs) (flat_map (tags_asked v) hs) old.cacheability new.cacheability

pub told_plain : (r : Reader) (v : Visit) (house : HouseView) (bs : List ℕ) (old new : Joined) (built : ℕ) → Appends (bytes bs) old new → Tells r (InShared v (open_places (bytes bs ++ [])) old new) house house built built
told_plain r v house bs old new built a =
    subst (λ hs. Tells r (InShared v hs old new) house house built built) (sym (no_places bs)) (tells_same r (Visits (NeededInFrame v) []) house old new built refl a.cacheability)

pub told_meta : (r : Reader) (v : Visit) (house : HouseView) (old new : Joined) (built : ℕ) → Appends (Place hole.Meta ∷ []) old new → Tells r (InShared v (hole.Meta ∷ []) old new) house house built built
told_meta r v house old new built a = tells_same r (Visits (NeededInFrame v) (hole.Meta ∷ [])) house old new built (visits_one (NeededInFrame v) hole.Meta Done refl) a.cacheability

pub told_lazy : (r : Reader) (v : Visit) (f : Fragment) (house : HouseView) (lazy : Bool) (old mid new : Joined) (built : ℕ) → lazy ≡ true → AsksLazy v f old lazy mid → Appends (Place (hole.Fragment f) ∷ []) mid new
    → Tells r (InShared v (hole.Fragment f ∷ []) old new) house house built built
told_lazy r v f house lazy old mid new built is asks a =
    tells_none r (InShared v (hole.Fragment f ∷ []) old new) house built
    (takes_asked (Visits (NeededInFrame v) (hole.Fragment f ∷ [])) v f lazy old mid new.cacheability Done asks
    (takes_none (Visits (NeededInFrame v) (hole.Fragment f ∷ [])) mid.cacheability new.cacheability
    (visits_one (NeededInFrame v) (hole.Fragment f) Done (shape_of true (stays_lazy v f) (λ u. u ≡ Done) (OfFragment (NeededBelow (fragment_level f) v) v f) Done (sym asks.told ∙ is) refl)) a.cacheability))

pub told_shown : (r : Reader) (v : Visit) (f : Fragment) (house house' : HouseView) (lazy : Bool) (old mid new : Joined) (a b : ℕ) → lazy ≡ false → AsksLazy v f old lazy mid
    → Tells r (TakesIn (OfFragment (NeededBelow (fragment_level f) v) v f) [] mid.cacheability new.cacheability) house house' a b → Tells r (InShared v (hole.Fragment f ∷ []) old new) house house' a b
told_shown r v f house house' lazy old mid new a b is asks t =
    tells_map r (TakesIn (OfFragment (NeededBelow (fragment_level f) v) v f) [] mid.cacheability new.cacheability) (InShared v (hole.Fragment f ∷ []) old new) house house' a b
    (λ u takes.
    takes_asked (Visits (NeededInFrame v) (hole.Fragment f ∷ [])) v f lazy old mid new.cacheability u asks (record {
      shape = visits_one (NeededInFrame v) (hole.Fragment f) u (shape_of false (stays_lazy v f) (λ w. w ≡ Done) (OfFragment (NeededBelow (fragment_level f) v) v f) u (sym asks.told ∙ is) takes.shape);
      tags = takes.tags;
      contexts = takes.contexts;
      age = takes.age;
    })) t

-- one part after others, where this was asked of each place
pub told_part : (r : Reader) (At : Hole → Went → Type 0) (asked : Hole → List Tag) (ss : List (Segment Hole)) (i : ℕ) (s : Segment Hole) (old mid new : HouseView) (first then after : Cacheability) (a b d : ℕ) → i < length ss → s ≡ get_or ss i s
    → Tells r (TakesIn (Visits At (open_places (pieces_of (parts_of (take i ss))))) (flat_map asked (open_places (pieces_of (parts_of (take i ss))))) first then) old mid a b
    → Tells r (TakesIn (Visits At (open_places (pieces_of (part_of s ∷ [])))) (flat_map asked (open_places (pieces_of (part_of s ∷ [])))) then after) mid new b d
    → Tells r (TakesIn (Visits At (open_places (pieces_of (parts_of (take (i + 1) ss))))) (flat_map asked (open_places (pieces_of (parts_of (take (i + 1) ss))))) first after) old new a d
told_part r At asked ss i s old mid new first then after a b d within is one two =
    let before : List Hole = open_places (pieces_of (parts_of (take i ss))) in
    let these : List Hole = open_places (pieces_of (part_of (get_or ss i s) ∷ [])) in
    rw ((take_at_read ss i s within).1)
    (subst (λ hs. Tells r (TakesIn (Visits At hs) (flat_map asked hs) first after) old new a d) (sym (ap open_places (parts_append (take i ss) (get_or ss i s)) ∙ places-append (pieces_of (parts_of (take i ss))) (pieces_of (part_of (get_or ss i s) ∷ []))))
    (subst (λ ts. Tells r (TakesIn (Visits At (before ++ these)) ts first after) old new a d) (sym (flat_map-append asked before these))
    (tells_then r (TakesIn (Visits At before) (flat_map asked before) first then) (TakesIn (Visits At these) (flat_map asked these) then after) (TakesIn (Visits At (before ++ these)) (flat_map asked before ++ flat_map asked these) first after) old mid new a b d
    (λ t u. takes_then (Visits At before) (Visits At these) (Visits At (before ++ these)) (flat_map asked before) (flat_map asked these) first then after t u (visits_then At before these t u))
    one
    (subst (λ t. Tells r (TakesIn (Visits At (open_places (pieces_of (part_of t ∷ [])))) (flat_map asked (open_places (pieces_of (part_of t ∷ [])))) then after) mid new b d) is two))))

-- where nothing is asked of any
abbrev nothing_asked : Hole → List Tag
nothing_asked h = []

none_asked : (hs : List Hole) → flat_map nothing_asked hs ≡ []
none_asked [] = refl
none_asked (h ∷ hs) = none_asked hs

pub told_more : (r : Reader) (At : Hole → Went → Type 0) (ss : List (Segment Hole)) (i : ℕ) (s : Segment Hole) (old mid new : HouseView) (first then after : Cacheability) (a b d : ℕ) → i < length ss → s ≡ get_or ss i s
    → Tells r (TakesIn (Visits At (open_places (pieces_of (parts_of (take i ss))))) [] first then) old mid a b
    → Tells r (TakesIn (Visits At (open_places (pieces_of (part_of s ∷ [])))) [] then after) mid new b d
    → Tells r (TakesIn (Visits At (open_places (pieces_of (parts_of (take (i + 1) ss))))) [] first after) old new a d
told_more r At ss i s old mid new first then after a b d within is one two =
    subst (λ ts. Tells r (TakesIn (Visits At (open_places (pieces_of (parts_of (take (i + 1) ss))))) ts first after) old new a d) (none_asked (open_places (pieces_of (parts_of (take (i + 1) ss)))))
    (told_part r At nothing_asked ss i s old mid new first then after a b d within is
    (subst (λ ts. Tells r (TakesIn (Visits At (open_places (pieces_of (parts_of (take i ss))))) ts first then) old mid a b) (sym (none_asked (open_places (pieces_of (parts_of (take i ss)))))) one)
    (subst (λ ts. Tells r (TakesIn (Visits At (open_places (pieces_of (part_of s ∷ [])))) ts then after) mid new b d) (sym (none_asked (open_places (pieces_of (part_of s ∷ []))))) two))

-- no part yet
pub told_begin : (r : Reader) (At : Hole → Went → Type 0) (house : HouseView) (j : Joined) (built : ℕ) → Tells r (TakesIn (Visits At []) [] j.cacheability j.cacheability) house house built built
told_begin r At house j built = tells_same r (Visits At []) house j j built refl refl

-- all parts
pub told_all : (r : Reader) (At : Hole → Went → Type 0) (asked : Hole → List Tag) (ss : List (Segment Hole)) (i : ℕ) (old new : HouseView) (first after : Cacheability) (a b : ℕ) → length ss ≤ i
    → Tells r (TakesIn (Visits At (open_places (pieces_of (parts_of (take i ss))))) (flat_map asked (open_places (pieces_of (parts_of (take i ss))))) first after) old new a b
    → Tells r (TakesIn (Visits At (open_places (pieces_of (parts_of ss)))) (flat_map asked (open_places (pieces_of (parts_of ss)))) first after) old new a b
told_all r At asked ss i old new first after a b over t =
    subst (λ xs. Tells r (TakesIn (Visits At (open_places (pieces_of (parts_of xs)))) (flat_map asked (open_places (pieces_of (parts_of xs)))) first after) old new a b) (take_all i ss over) t

pub told_whole : (r : Reader) (At : Hole → Went → Type 0) (ss : List (Segment Hole)) (i : ℕ) (old new : HouseView) (first after : Cacheability) (a b : ℕ) → length ss ≤ i
    → Tells r (TakesIn (Visits At (open_places (pieces_of (parts_of (take i ss))))) [] first after) old new a b → Tells r (TakesIn (Visits At (open_places (pieces_of (parts_of ss)))) [] first after) old new a b
told_whole r At ss i old new first after a b over t =
    subst (λ xs. Tells r (TakesIn (Visits At (open_places (pieces_of (parts_of xs)))) [] first after) old new a b) (take_all i ss over) t
