-- No more are built for a page than it has elements.
use Rattle.std.proofs.Common.{ℕ, zero, suc, List, [], ◌∷◌, ◌++◌, ◌≡◌, ◌≤◌, ◌+◌, ◌⊎◌, min, Bool, true, false, refl, ◌∙◌, ap, subst, arith, Option, Some, None, inl, inr}
use Rattle.std.specs.Prelude.{◌==◌, sum_by, if◌then◌else◌}
use Rattle.std.proofs.lemmas.List.Sums.{sum_by-cons}
use Rattle.content_rows.specs.declared.cell.Cell.{Cell}
use Rattle.content_rows.specs.declared.row.Row.{Row}
use Rattle.content_state.specs.declared.ask.Ask.{Ask}
use Rattle.content_state.specs.declared.ask.Viewer.{Viewer}
use Rattle.content_state.specs.declared.element.Fragment.{Fragment}
use Rattle.content_state.specs.declared.element.Fragment.TheVariants as fragment
use Rattle.content_state.specs.declared.element.Hole.{Hole}
use Rattle.content_state.specs.declared.element.Hole.TheVariants as hole
use Rattle.content_state.specs.declared.element.Library.{Library}
use Rattle.content_state.specs.Read.{answer}
use Rattle.content_state.specs.Context.{Visit, value}
use Rattle.content_state.specs.Met.{met, result_of}
use Rattle.content_state.specs.Plan.{Piece, Byte, Place, bytes, Plan, Done as Gives, Write, Attach, Reading, Asking, Clock, Part, ◌>>=◌, ◌>>◌, Needs, Made, part}
use Rattle.content_state.specs.Places.{at_place, filled_in, open_places}
use Rattle.content_state.specs.Viewer.{viewer_of}
use Rattle.cache_entries.specs.declared.entry.Entry.{Entry}
use Rattle.cache_entries.specs.declared.key.Subject.TheVariants as subject
use Rattle.cache_entries.specs.Entries.{IsHere, needs_of}
use Rattle.render_canvas.specs.Board.{pieces_of}
use Rattle.render_array.specs.declared.element.Element.TheVariants as element
use Rattle.render_array.specs.Built.{fragment_shown, plan_of}
use Rattle.render_array.specs.Whole.{level, fragment_level, plan_at, count_at, count_below, element_count, shown_below, whole}
use Rattle.render_array.specs.Shown.{OnlyMeta, page_count}
use Rattle.render_array.proofs.Leaves.{fragment_closed}
use Rattle.page_meaning.specs.Lazy.{is_lazy}
use Rattle.page_meaning.specs.Meaning.{meaning, open_if, in_frame, for_everybody}
use Rattle.element_entries.specs.Readers.{Reader}
use Rattle.site_house.specs.House.{HouseView}
use Rattle.kept_pages.specs.Needed.{Visits, OfPlace, either_shape, NeededBelow, OfFragment, stays_lazy, NeededInFrame, OfFrame, OfWhole, OfTarget, ForSession, OfRequest}
use Rattle.kept_pages.specs.Went.{Went, Done, number_built}
use Rattle.kept_pages.specs.Held.{Tells}
use Rattle.kept_pages.proofs.Parts.{same_pieces}
use Rattle.kept_pages.proofs.Counting.{number_then, needed_lower}
use Rattle.kept_pages.proofs.OfFrames.{below_page, stands, OfRows, lazy_of_rows}
use Rattle.kept_pages.proofs.Timeless.{Timeless, HasNoPlace, plan_either}

-- counts alone: where a visit is known too, `omega` reads it through
none_most : {u : Went} (t : Went) (count : ℕ) → t ≡ u → number_built u ≡ 0 → number_built t ≤ count
none_most t count is none = let built = ap number_built is in omega arith

both_most : (built one rest here others all : ℕ) → built ≡ one + rest → one ≤ here → rest ≤ others → all ≡ here + others → built ≤ all
both_most built one rest here others all built_is first second all_is = omega arith

visits_most : (At : Hole → Went → Type 0) (count : Hole → ℕ) → ((h : Hole) (t : Went) → At h t → number_built t ≤ count h) → (hs : List Hole) (t : Went) → Visits At hs t → number_built t ≤ sum_by count hs
visits_most At count most [] t is = none_most t 0 is refl
visits_most At count most (h ∷ hs) t v =
    both_most (number_built t) (number_built v.one) (number_built v.rest) (count h) (sum_by count hs) (sum_by count (h ∷ hs))
    (ap number_built v.is ∙ number_then v.one v.rest) (most h v.one v.first) (visits_most At count most hs v.rest v.others) (sum_by-cons count h hs)

place_most : (k : ℕ) (v : Visit) → ((h : Hole) (t : Went) → NeededBelow k v h t → number_built t ≤ count_below k v h) → (h : Hole) (t : Went) → OfPlace (NeededBelow k v) v h t → number_built t ≤ count_at (count_below k v) v (plan_at h)
place_most k v most hole.Meta t is = none_most t (count_at (count_below k v) v (plan_at hole.Meta)) is refl
place_most k v most (hole.Fragment f) t of = elim of.element [
  | inl is ↦ none_most t _ is refl
  | inr b ↦ (
      let whole = ap number_built b.is in
      let inner = visits_most (NeededBelow k v) (count_below k v) most (met (fragment_shown f >> Gives None) v).places b.inner b.of_places in
      omega arith)
]

either_most : (b : Bool) (At Rest : Went → Type 0) (t : Went) (one other : ℕ) → (At t → number_built t ≤ one) → (Rest t → number_built t ≤ other) → either_shape b At Rest t → number_built t ≤ (if b then one else other)
either_most true At Rest t one other first second of = first of
either_most false At Rest t one other first second of = second of

below_most : (k : ℕ) (v : Visit) (h : Hole) (t : Went) → NeededBelow k v h t → number_built t ≤ count_below k v h
below_most zero v h t is = none_most t 0 is refl
below_most (suc k) v h t needed =
    either_most (level h == k) (OfPlace (NeededBelow k v) v h) (NeededBelow k v h) t (count_at (count_below k v) v (plan_at h)) (count_below k v h)
    (place_most k v (λ g u of. below_most k v g u of) h t) (below_most k v h t) needed

-- ---- what stays open in a page, and what doesn't

abbrev count_open : Visit → Hole → ℕ
count_open v hole.Meta = 0
count_open v (hole.Fragment f) = if stays_lazy v f then count_below 5 v (hole.Fragment f) else 0

abbrev count_kept : Visit → Hole → ℕ
count_kept v hole.Meta = 0
count_kept v (hole.Fragment f) = if stays_lazy v f then 0 else count_below 5 v (hole.Fragment f)

either_count : (b : Bool) (n : ℕ) → (if b then 0 else n) + (if b then n else 0) ≤ n
either_count true n = omega arith
either_count false n = omega arith

one_count : (v : Visit) (h : Hole) → count_kept v h + count_open v h ≤ count_below 5 v h
one_count v hole.Meta = omega arith
one_count v (hole.Fragment f) = either_count (stays_lazy v f) (count_below 5 v (hole.Fragment f))

all_count : (v : Visit) (hs : List Hole) → sum_by (count_kept v) hs + sum_by (count_open v) hs ≤ sum_by (count_below 5 v) hs
all_count v [] = omega arith
all_count v (h ∷ hs) =
    let one = one_count v h in
    let others = all_count v hs in
    let kept = sum_by-cons (count_kept v) h hs in
    let open_ones = sum_by-cons (count_open v) h hs in
    let all = sum_by-cons (count_below 5 v) h hs in
    omega arith

frame_most : (v : Visit) (h : Hole) (t : Went) → NeededInFrame v h t → number_built t ≤ count_kept v h
frame_most v hole.Meta t is = none_most t 0 is refl
frame_most v (hole.Fragment f) t needed =
    either_most (stays_lazy v f) (λ u. u ≡ Done) (OfFragment (NeededBelow (fragment_level f) v) v f) t 0 (count_below 5 v (hole.Fragment f))
    (λ is. none_most t 0 is refl)
    (λ of. below_most 5 v (hole.Fragment f) t (needed_lower 5 (fragment_level f) v (hole.Fragment f) t refl (let low = below_page f in omega arith) of)) needed

-- ---- the open places of what is shown

module _ (v : Visit) where
  abbrev open_count : List Piece → ℕ
  open_count ps = sum_by (count_below 5 v) (open_places ps)

  count_bytes : (bs : List ℕ) (ps : List Piece) → open_count (bytes bs ++ ps) ≡ open_count ps
  count_bytes [] ps = refl
  count_bytes (b ∷ bs) ps = count_bytes bs ps

  closed_count : (ps : List Piece) → OnlyMeta ps → open_count ps ≡ 0
  closed_count [] only = refl
  closed_count (Byte b ∷ ps) only = closed_count ps only
  closed_count (Place hole.Meta ∷ ps) only = let others = closed_count ps only in let sum = sum_by-cons (count_below 5 v) hole.Meta (open_places ps) in omega arith
  closed_count (Place (hole.Fragment f) ∷ ps) only = absurd only

  module _ (needs : Needs) where
    -- of one plan after another
    then_count : {A B : Type 0} (p : Plan A) (f : A → Plan B) (x : B) (n m before : ℕ) (shown : List Piece) (libraries : List Library)
        → ((a : A) (own : List Piece) (attached : List Library) → Made p v a own attached needs → before + open_count own ≤ m)
        → ((a : A) (rest : List Piece) (others : List Library) → Made (f a) v x rest others needs → open_count rest ≤ n)
        → Made (p >>= f) v x shown libraries needs → before + open_count shown ≤ m + n
    then_count (Gives a) f x n m before shown libraries first second made =
        let one = first a [] [] (refl, refl, refl) in let other = second a shown libraries made in omega arith
    then_count (Write bs k) f x n m before shown libraries first second made =
        let all = then_count k f x n m before made.0 libraries
        (λ a own attached mk. (let one = first a (bytes bs ++ own) attached (own, refl, mk) in let same = count_bytes bs own in omega arith)) second made.2 in
        let is = ap open_count made.1 in
        let same = count_bytes bs made.0 in
        omega arith
    then_count (Attach l k) f x n m before shown libraries first second made =
        then_count k f x n m before shown made.0 (λ a own attached mk. first a own (l ∷ attached) (attached, refl, mk)) second made.2
    then_count (Reading r k) f x n m before shown libraries first second made =
        then_count (k (answer v.rows r)) f x n m before shown libraries (λ a own attached mk. first a own attached (made.0, mk)) second made.1
    then_count (Asking c k) f x n m before shown libraries first second made =
        then_count (k (value v c)) f x n m before shown libraries (λ a own attached mk. first a own attached (made.0, mk)) second made.1
    then_count (Clock age k) f x n m before shown libraries first second made =
        then_count (k made.0) f x n m before shown libraries (λ a own attached mk. first a own attached (made.0, made.1, made.2, mk)) second made.3
    then_count (Part h k) f x n m before shown libraries first second made =
        let all = then_count k f x n m (before + count_below 5 v h) made.0 libraries
        (λ a own attached mk. (let one = first a (Place h ∷ own) attached (own, refl, mk) in let sum = sum_by-cons (count_below 5 v) h (open_places own) in omega arith)) second made.2 in
        let is = ap open_count made.1 in
        let sum = sum_by-cons (count_below 5 v) h (open_places made.0) in
        omega arith

    -- what rows decide
    after_rows : {A B : Type 0} (p : Plan A) (f : A → Plan B) (x : B) (shown : List Piece) (libraries : List Library) → OfRows p v → Made (p >>= f) v x shown libraries needs → Made (f (result_of p v)) v x shown libraries needs
    after_rows (Gives a) f x shown libraries of made = made
    after_rows (Reading r k) f x shown libraries of made = after_rows (k (answer v.rows r)) f x shown libraries of made.1
    after_rows (Write bs k) f x shown libraries of made = absurd of
    after_rows (Attach l k) f x shown libraries of made = absurd of
    after_rows (Asking c k) f x shown libraries of made = absurd of
    after_rows (Clock age k) f x shown libraries of made = absurd of
    after_rows (Part h k) f x shown libraries of made = absurd of

    child_count : (f : Fragment) (x : Option ℕ) (own : List Piece) (attached : List Library) → Made (whole [] (element.Fragment f)) v x own attached needs → open_count own ≤ 0
    child_count f x own attached made = let none = closed_count own (fragment_closed [] f v x own attached needs made) in omega arith

    if_open : (b : Bool) (f : Fragment) (x : Option ℕ) (own : List Piece) (attached : List Library) → Made (open_if b f (whole [] (element.Fragment f))) v x own attached needs → open_count own ≤ (if b then count_below 5 v (hole.Fragment f) else 0)
    unfolding part
    if_open true f x own attached made =
        let is = ap open_count (made.1 ∙ ap (λ ps. Place (hole.Fragment f) ∷ ps) made.2.1) in
        let sum = sum_by-cons (count_below 5 v) (hole.Fragment f) [] in
        omega arith
    if_open false f x own attached made = child_count f x own attached made

    fragment_count : (f : Fragment) (x : Option ℕ) (own : List Piece) (attached : List Library) → Made (in_frame f (whole [] (element.Fragment f))) v x own attached needs → open_count own ≤ count_open v (hole.Fragment f)
    fragment_count (fragment.Block name) x own attached made =
        if_open (result_of (is_lazy name) v) (fragment.Block name) x own attached
        (after_rows (is_lazy name) (λ b. open_if b (fragment.Block name) (whole [] (element.Fragment (fragment.Block name)))) x own attached (lazy_of_rows name v) made)
    fragment_count (fragment.Menu name) x own attached made = child_count (fragment.Menu name) x own attached made
    fragment_count (fragment.Listing name where_placed) x own attached made = child_count (fragment.Listing name where_placed) x own attached made
    fragment_count (fragment.TermListing t) x own attached made = child_count (fragment.TermListing t) x own attached made
    fragment_count (fragment.Node n m) x own attached made = child_count (fragment.Node n m) x own attached made

    place_count : {A : Type 0} (h : Hole) (k : Plan A) (x : A) (n : ℕ) (shown : List Piece) (libraries : List Library) → ((rest : List Piece) (others : List Library) → Made k v x rest others needs → open_count rest ≤ n)
        → Made (at_place (for_everybody (shown_below 5) h) h k) v x shown libraries needs → open_count shown ≤ count_open v h + n
    place_count hole.Meta k x n shown libraries rest_of made =
        let others = rest_of made.0 libraries made.2 in
        let is = ap open_count made.1 in
        let sum = sum_by-cons (count_below 5 v) hole.Meta (open_places made.0) in
        omega arith
    place_count (hole.Fragment f) k x n shown libraries rest_of made =
        let all = then_count (in_frame f (whole [] (element.Fragment f))) (λ _. k) x n (count_open v (hole.Fragment f)) 0 shown libraries (λ a own attached mk. (let one = fragment_count f a own attached mk in omega arith))
        (λ a rest others mk. rest_of rest others mk) (subst (λ o. Made (at_place o (hole.Fragment f) k) v x shown libraries needs) (stands f) made) in
        omega arith

    frame_count : {A : Type 0} (p : Plan A) (x : A) (shown : List Piece) (libraries : List Library) → Timeless v p → Made (filled_in (for_everybody (shown_below 5)) p) v x shown libraries needs → open_count shown ≤ sum_by (count_open v) (met p v).places
    frame_count (Gives a) x shown libraries timeless made = let none = ap open_count made.1 in omega arith
    frame_count (Write bs k) x shown libraries timeless made =
        let others = frame_count k x made.0 libraries timeless made.2 in
        let is = ap open_count made.1 in
        let same = count_bytes bs made.0 in
        omega arith
    frame_count (Attach l k) x shown libraries timeless made = frame_count k x shown made.0 timeless made.2
    frame_count (Reading r k) x shown libraries timeless made = frame_count (k (answer v.rows r)) x shown libraries timeless made.1
    frame_count (Asking c k) x shown libraries timeless made = frame_count (k (value v c)) x shown libraries timeless made.1
    frame_count (Clock age k) x shown libraries timeless made = absurd timeless
    frame_count (Part h k) x shown libraries timeless made =
        let all = place_count h (filled_in (for_everybody (shown_below 5)) k) x (sum_by (count_open v) (met k v).places) shown libraries (λ rest others mk. frame_count k x rest others timeless mk) made in
        let sum = sum_by-cons (count_open v) h (met k v).places in
        omega arith

    -- where the plan leaves no place open
    closed_frame : {A : Type 0} (p : Plan A) (x : A) (shown : List Piece) (libraries : List Library) → HasNoPlace v p → Made (filled_in (for_everybody (shown_below 5)) p) v x shown libraries needs → open_count shown ≡ 0
    closed_frame (Gives a) x shown libraries closed made = ap open_count made.1
    closed_frame (Write bs k) x shown libraries closed made = ap open_count made.1 ∙ count_bytes bs made.0 ∙ closed_frame k x made.0 libraries closed made.2
    closed_frame (Attach l k) x shown libraries closed made = closed_frame k x shown made.0 closed made.2
    closed_frame (Reading r k) x shown libraries closed made = closed_frame (k (answer v.rows r)) x shown libraries closed made.1
    closed_frame (Asking c k) x shown libraries closed made = closed_frame (k (value v c)) x shown libraries closed made.1
    closed_frame (Clock age k) x shown libraries closed made = closed_frame (k made.0) x shown libraries (closed made.0) made.3
    closed_frame (Part h k) x shown libraries closed made = absurd closed.0

    either_frame : {A : Type 0} (p : Plan A) (x : A) (shown : List Piece) (libraries : List Library) → Timeless v p ⊎ HasNoPlace v p → Made (filled_in (for_everybody (shown_below 5)) p) v x shown libraries needs → open_count shown ≤ sum_by (count_open v) (met p v).places
    either_frame p x shown libraries (inl timeless) made = frame_count p x shown libraries timeless made
    either_frame p x shown libraries (inr closed) made = let none = closed_frame p x shown libraries closed made in omega arith

  page_count_open : (path : List ℕ) (page : Entry) → IsHere meaning (subject.Page path) v page → open_count (pieces_of page.segments) ≤ sum_by (count_open v) (met (plan_of path element.Page) v).places
  page_count_open path page here =
      subst (λ ps. open_count ps ≤ sum_by (count_open v) (met (plan_of path element.Page) v).places) (same_pieces page.segments)
      (either_frame (needs_of page) (plan_of path element.Page) page.status _ here.has.makes.attached (plan_either v path) here.has.makes.made)

-- ---- a page

found_or_built : (path : List ℕ) (v : Visit) (page : Entry) (t : Went) → OfFrame path v page t → number_built t ≤ 1 + sum_by (count_kept v) (met (plan_of path element.Page) v).places
found_or_built path v page t (inl is) = none_most t _ is refl
found_or_built path v page t (inr b) =
    let all = ap number_built b.is in
    let inner = visits_most (NeededInFrame v) (count_kept v) (frame_most v) (met (plan_of path element.Page) v).places b.inner b.of_places in
    omega arith

-- no more are built for what is kept of it than the page has
pub frame_at_most : (path : List ℕ) (v : Visit) (page : Entry) (t : Went) → OfFrame path v page t → number_built t ≤ element_count path v element.Page
frame_at_most path v page t of =
    let frame = found_or_built path v page t of in
    let all = all_count v (met (plan_of path element.Page) v).places in
    omega arith

whole_most : (path : List ℕ) (v : Visit) (t : Went) → OfWhole path v t → number_built t ≤ element_count path v element.Page
whole_most path v t w =
    let both = ap number_built w.both.is ∙ number_then w.both.one w.both.rest in
    let frame = found_or_built path v w.page w.both.one w.both.first in
    let holes = visits_most (NeededBelow 5 v) (count_below 5 v) (below_most 5 v) (open_places (pieces_of w.page.segments)) w.both.rest w.both.others in
    let open_ones = page_count_open v path w.page w.here in
    let all = all_count v (met (plan_of path element.Page) v).places in
    omega arith

target_most : (v : Visit) (t : Went) → OfTarget v t → number_built t ≤ element_count v.ask.path v element.Page
target_most v t of = elim of.element [
  | inl is ↦ none_most t _ is refl
  | inr b ↦ (let all = ap number_built b.is in let inner = whole_most v.ask.path v b.inner b.of_places in omega arith)
]

session_most : (o : Option (List ℕ)) (v : Visit) (t : Went) → ForSession o v t → number_built t ≤ element_count v.ask.path v element.Page
session_most None v t of = target_most v t of
session_most (Some token) v t of = whole_most v.ask.path v t of

-- no more were built than the page has
pub page_at_most : (r : Reader) (old new : HouseView) (rows : List (Cell × Row)) (viewer : Viewer) (ask : Ask) (moment built : ℕ) → viewer ≡ viewer_of rows ask.cookie moment
    → Tells r (OfRequest (record { rows = rows; viewer = viewer; ask = ask; moment = moment })) old new 0 built → built ≤ min (page_count rows ask moment) 18446744073709551615
page_at_most r old new rows viewer ask moment built named told =
    subst (λ (w : Viewer). built ≤ min (element_count ask.path (record { rows = rows; viewer = w; ask = ask; moment = moment }) element.Page) 18446744073709551615) named
    (let counted = told.counted 0 refl in
    let most = session_most viewer.session (record { rows = rows; viewer = viewer; ask = ask; moment = moment }) told.tree told.shape in
    omega arith)
