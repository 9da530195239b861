-- The page of a path as it is kept for whoever views it is put together part by part, and the whole page is made of it.
use Rattle.std.proofs.Common.{ℕ, List, [], ◌∷◌, ◌++◌, ◌≡◌, refl, sym, ◌∙◌, ap, subst, append-nil, arith, Bool, true, false, Option, Some, None, Contains, inl, inr}
use Rattle.std.specs.Prelude.{if◌then◌else◌, option_map, sum_by}
use Rattle.std.proofs.lemmas.List.Sums.{sum_by-cons}
use Rattle.cacheability.specs.declared.cacheability.Cacheability.{Cacheability}
use Rattle.cacheability.specs.declared.max_age.MaxAge.TheVariants.{Permanent}
use Rattle.cacheability.specs.declared.tag.Tag.{Tag}
use Rattle.cacheability.specs.InOrder.{HasBoth}
use Rattle.cacheability.specs.MaxAge.{least}
use Rattle.content_rows.specs.declared.row.Block.{Block}
use Rattle.content_rows.specs.declared.row.BlockKind.{BlockKind}
use Rattle.content_rows.specs.declared.row.BlockKind.TheVariants as kind
use Rattle.content_state.specs.State.{State}
use Rattle.content_state.specs.declared.element.Fragment.{Fragment}
use Rattle.content_state.specs.declared.element.Fragment.TheVariants as fragment
use Rattle.content_state.specs.declared.element.Hole.{Hole}
use Rattle.content_state.specs.declared.element.Hole.TheVariants as hole
use Rattle.content_state.specs.declared.element.Library.{Library}
use Rattle.content_state.specs.declared.element.Mode.{Mode}
use Rattle.content_state.specs.declared.element.Mode.TheVariants as mode
use Rattle.content_state.specs.declared.element.Depth.{Depth}
use Rattle.content_state.specs.declared.element.Depth.TheVariants as depth
use Rattle.html_out.specs.Part.{Part as OfSegment}
use Rattle.content_state.specs.Read.{answer, cover, BlockRow}
use Rattle.content_state.specs.Context.{Visit}
use Rattle.content_state.specs.Met.{Met, met, met_both, met_nothing, result_of}
use Rattle.content_state.specs.Plan.{Piece, Place, Plan, Done, Write, Attach, Reading, Asking, Clock, Part, Needs, Made, AllIn, part, reading}
use Rattle.content_state.specs.Places.{filled_in, Fills, FillsPlace, SameMembers, MakesWhole}
use Rattle.content_state.proofs.Filled.{in_append, in_left, in_right, same_refl, same_trans, filled}
use Rattle.content_state.proofs.Made.{Made-then}
use Rattle.content_state.proofs.Meets.{least_permanent, met-bind}
use Rattle.page_meaning.specs.Lazy.{Tells, is_lazy_listing, is_lazy_kind, is_lazy_block, is_lazy}
use Rattle.page_meaning.specs.Meaning.{open_if, in_frame as shown_in_frame, framed, FramesAreFilled}
use Rattle.render_canvas.specs.Board.{pieces_of}
use Rattle.render_canvas.specs.Canvas.{Keeps}
use Rattle.render_canvas.proofs.Run.{Keeps-trans, Made-kept, both_none}
use Rattle.render_array.specs.declared.element.Element.TheVariants as element
use Rattle.render_array.specs.Whole.{shown_below, count_below, whole, element_count}
use Rattle.renderer.specs.declared.filled.Filled.{Filled}
use Rattle.renderer.specs.Filled.{needs_of, met_in, TellsMore, IsWhole, Appends, Takes, Joins}
use Rattle.renderer.proofs.Joining.{keeps_same, joins_open, joins_child}
use Rattle.renderer.proofs.Standing.{StandsAt, stands}
use Rattle.renderer.proofs.Telling.{tells_none, tells_then, tells_one, tells_child}
use Rattle.site_rehearsal.specs.Framing.{Makes, FillsFrame, Begins, TellsOpen, in_frame, stays_open, count_in_frame}

-- ---- whether a block is lazy

all_in : (xs ys : List Tag) → ((x : Tag) → Contains xs x → Contains ys x) → AllIn xs ys
all_in [] ys held = tt
all_in (x ∷ xs) ys held = (held x (0, omega arith, refl), all_in xs ys (λ y h. held y (in_right (x ∷ []) xs y h)))

-- the plan only reads rows
abbrev OnlyReads : {A : Type 0} → Plan A → Visit → Type 0
OnlyReads (Done a) v = Unit {0}
OnlyReads (Reading r k) v = OnlyReads (k (answer v.rows r)) v
OnlyReads (Asking c k) v = ⊥
OnlyReads (Write bs k) v = ⊥
OnlyReads (Attach l k) v = ⊥
OnlyReads (Clock age k) v = ⊥
OnlyReads (Part h k) v = ⊥

reads_kind : (k : BlockKind) (block : Block) (v : Visit) → OnlyReads (is_lazy_kind k block) v
unfolding reading
reads_kind kind.Text block v = tt
reads_kind kind.Menu block v = tt
reads_kind kind.Listing block v = go block.name
  where
    go : (name : Option (List ℕ)) → OnlyReads (is_lazy_listing name) v
    go None = tt
    go (Some name) = tt
reads_kind kind.Greeting block v = tt
reads_kind kind.Csrf block v = tt
reads_kind kind.Clock block v = tt

reads_block : (block : Option Block) (v : Visit) → OnlyReads (is_lazy_block block) v
reads_block None v = tt
reads_block (Some block) v = reads_kind block.kind block v

only_reads : (name : List ℕ) (v : Visit) → OnlyReads (is_lazy name) v
unfolding reading
only_reads name v = reads_block (answer v.rows (BlockRow name)) v

-- it gives its result where all that it reads is covered
reads_made : {A : Type 0} (p : Plan A) (v : Visit) (needs : Needs) → OnlyReads p v → ((t : Tag) → Contains (met p v).tags t → Contains needs.tags t) → Made p v (result_of p v) [] [] needs
reads_made (Done a) v needs only tags = (refl, refl, refl)
reads_made (Reading r k) v needs only tags = (
  all_in (cover v.rows r) needs.tags (λ t h. tags t (in_left (cover v.rows r) (met (k (answer v.rows r)) v).tags t h)),
  reads_made (k (answer v.rows r)) v needs only (λ t h. tags t (in_right (cover v.rows r) (met (k (answer v.rows r)) v).tags t h)),
)
reads_made (Asking c k) v needs only tags = absurd only
reads_made (Write bs k) v needs only tags = absurd only
reads_made (Attach l k) v needs only tags = absurd only
reads_made (Clock age k) v needs only tags = absurd only
reads_made (Part h k) v needs only tags = absurd only

-- nothing but tags is met where only rows are read
reads_contexts : {A : Type 0} (p : Plan A) (v : Visit) → OnlyReads p v → (met p v).contexts ≡ []
reads_contexts (Done a) v only = refl
reads_contexts (Reading r k) v only = reads_contexts (k (answer v.rows r)) v only
reads_contexts (Asking c k) v only = absurd only
reads_contexts (Write bs k) v only = absurd only
reads_contexts (Attach l k) v only = absurd only
reads_contexts (Clock age k) v only = absurd only
reads_contexts (Part h k) v only = absurd only

reads_age : {A : Type 0} (p : Plan A) (v : Visit) → OnlyReads p v → (met p v).age ≡ Permanent
reads_age (Done a) v only = refl
reads_age (Reading r k) v only = reads_age (k (answer v.rows r)) v only
reads_age (Asking c k) v only = absurd only
reads_age (Write bs k) v only = absurd only
reads_age (Attach l k) v only = absurd only
reads_age (Clock age k) v only = absurd only
reads_age (Part h k) v only = absurd only

lazy_tells : (name : List ℕ) (v : Visit) (old new : Cacheability) (lazy : Bool) → Tells (is_lazy name) v old lazy new → TellsMore (met (is_lazy name) v) old new
lazy_tells name v old new lazy tells = record {
  tags = tells.tags;
  contexts = subst (λ cs. HasBoth old.contexts cs new.contexts) (sym (reads_contexts (is_lazy name) v (only_reads name v))) (both_none old.contexts new.contexts tells.contexts);
  age = tells.age ∙ sym (least_permanent old.max_age) ∙ ap (least old.max_age) (sym (reads_age (is_lazy name) v (only_reads name v)));
}

lazy_made : (name : List ℕ) (v : Visit) (old mid : Cacheability) (lazy : Bool) (needs : Needs) → Tells (is_lazy name) v old lazy mid → ((t : Tag) → Contains mid.tags t → Contains needs.tags t) → Made (is_lazy name) v lazy [] [] needs
lazy_made name v old mid lazy needs tells held =
    subst (λ b. Made (is_lazy name) v b [] [] needs) (sym tells.result)
    (reads_made (is_lazy name) v needs (only_reads name v) (λ t h. held t ((tells.tags t).1 (inr h))))

-- ---- what stands in the places

-- what is needed stays needed, and what tells whether the place stays open is needed besides
pub record Told (v : Visit) (f : Fragment) (left : Bool) (old mid : Filled) : Type 0 where
  pub open_is : left ≡ stays_open v f
  pub tags : (t : Tag) → Contains old.cacheability.tags t → Contains mid.cacheability.tags t
  pub contexts : mid.cacheability.contexts ≡ old.cacheability.contexts
  pub segments : mid.segments ≡ old.segments
  pub libraries : mid.libraries ≡ old.libraries
  pub last : mid.last ≡ old.last
  pub status : mid.status ≡ old.status
  pub built : mid.built ≡ old.built
  pub asked : Met
  pub tells : TellsMore asked old.cacheability mid.cacheability
  pub meets : (p : Plan (Option ℕ)) → met (shown_in_frame f p) v ≡ met_both asked (met (open_if left f p) v)
  pub made : (p : Plan (Option ℕ)) (status : Option ℕ) (own : List Piece) (attached : List Library) (needs : Needs) → ((t : Tag) → Contains mid.cacheability.tags t → Contains needs.tags t)
      → Made (open_if left f p) v status own attached needs → Made (shown_in_frame f p) v status own attached needs

told_kept : (v : Visit) (f : Fragment) (left : Bool) (old mid : Filled) → left ≡ false → stays_open v f ≡ false → shown_in_frame f ≡ (λ p. p) → mid ≡ old → Told v f left old mid
told_kept v f left old mid closed stays same is = record {
  open_is = closed ∙ sym stays;
  tags = λ t h. subst (λ (x : Filled). Contains x.cacheability.tags t) (sym is) h;
  contexts = ap (λ (x : Filled). x.cacheability.contexts) is;
  segments = ap (λ (x : Filled). x.segments) is;
  libraries = ap (λ (x : Filled). x.libraries) is;
  last = ap (λ (x : Filled). x.last) is;
  status = ap (λ (x : Filled). x.status) is;
  built = ap (λ (x : Filled). x.built) is;
  asked = met_nothing;
  tells = tells_none old.cacheability mid.cacheability (ap (λ (x : Filled). x.cacheability) is);
  meets = λ p. ap (λ (g : Plan (Option ℕ) → Plan (Option ℕ)). met (g p) v) same ∙ ap (λ b. met (open_if b f p) v) (sym closed);
  made = λ p status own attached needs held made.
      subst (λ (g : Plan (Option ℕ) → Plan (Option ℕ)). Made (g p) v status own attached needs) (sym same)
      (subst (λ b. Made (open_if b f p) v status own attached needs) closed made);
}

abbrev pub with_needs : Filled → Cacheability → Filled
with_needs old c = record old { cacheability = c }

pub told_open : (state : State) (v : Visit) (f : Fragment) (left : Bool) (old : Filled) (c : Cacheability) → v.rows ≡ state.rows → TellsOpen state f old.cacheability left c → Told v f left old (with_needs old c)
told_open state v (fragment.Block name) left old c rows tells = record {
  open_is = (tells v rows).result;
  tags = λ t h. ((tells v rows).tags t).1 (inl h);
  contexts = (tells v rows).contexts;
  segments = refl;
  libraries = refl;
  last = refl;
  status = refl;
  built = refl;
  asked = met (is_lazy name) v;
  tells = lazy_tells name v old.cacheability c left (tells v rows);
  meets = λ p. met-bind (is_lazy name) (λ lazy. open_if lazy (fragment.Block name) p) v
      ∙ ap (λ b. met_both (met (is_lazy name) v) (met (open_if b (fragment.Block name) p) v)) (sym (tells v rows).result);
  made = λ p status own attached needs held made.
      Made-then (is_lazy name) (λ lazy. open_if lazy (fragment.Block name) p) v left status [] own [] attached needs
      (lazy_made name v old.cacheability c left needs (tells v rows) held) made;
}
told_open state v (fragment.Menu name) left old c rows tells = told_kept v (fragment.Menu name) left old (with_needs old c) tells.0 refl refl (ap (with_needs old) tells.1)
told_open state v (fragment.Listing name where_placed) left old c rows tells = told_kept v (fragment.Listing name where_placed) left old (with_needs old c) tells.0 refl refl (ap (with_needs old) tells.1)
told_open state v (fragment.TermListing t) left old c rows tells = told_kept v (fragment.TermListing t) left old (with_needs old c) tells.0 refl refl (ap (with_needs old) tells.1)
told_open state v (fragment.Node n mode) left old c rows tells = told_kept v (fragment.Node n mode) left old (with_needs old c) tells.0 refl refl (ap (with_needs old) tells.1)

told_keeps : (v : Visit) (f : Fragment) (left : Bool) (old mid : Filled) → Told v f left old mid → Keeps (needs_of old) (needs_of mid)
told_keeps v f left old mid told = record {
  tags = told.tags;
  contexts = λ c h. subst (λ l. Contains l c) (sym told.contexts) h;
  last = (let last = told.last in omega arith);
}

stands_there : (f : Fragment) (path : List ℕ) (v : Visit) → StandsAt 5 path v (hole.Fragment f) (element.Fragment f)
stands_there (fragment.Block name) path v = stands 5 path v _ _ refl
stands_there (fragment.Menu name) path v = stands 5 path v _ _ refl
stands_there (fragment.Listing name where_placed) path v = stands 5 path v _ _ refl
stands_there (fragment.TermListing t) path v = stands 5 path v _ _ refl
stands_there (fragment.Node n m) path v = by_mode m
  where
    by_depth : (d : Depth) → StandsAt 5 path v (hole.Fragment (fragment.Node n (mode.Embed d))) (element.Fragment (fragment.Node n (mode.Embed d)))
    by_depth depth.One = stands 5 path v _ _ refl
    by_depth depth.Two = stands 5 path v _ _ refl
    by_depth depth.Three = stands 5 path v _ _ refl

    by_mode : (m : Mode) → StandsAt 5 path v (hole.Fragment (fragment.Node n m)) (element.Fragment (fragment.Node n m))
    by_mode mode.Full = stands 5 path v _ _ refl
    by_mode mode.Teaser = stands 5 path v _ _ refl
    by_mode (mode.Embed d) = by_depth d

-- what is filled by what stands there
fills_one : (v : Visit) (needs : Needs) (f : Fragment) (p : Plan (Option ℕ)) (status : Option ℕ) (own : List Piece) (attached : List Library) → shown_below 5 (hole.Fragment f) ≡ Some p → Made (shown_in_frame f p) v status own attached needs
    → Fills in_frame v needs (Place (hole.Fragment f) ∷ []) own attached
fills_one v needs f p status own attached is made =
    subst (λ o. FillsPlace (option_map (shown_in_frame f) o) v needs (hole.Fragment f) (Fills in_frame v needs []) own attached) (sym is) (record {
      own = own;
      libraries = attached;
      rest = [];
      others = [];
      status = status;
      shown_is = sym (append-nil own);
      attached_is = sym (append-nil attached);
      made = made;
      follows = (refl, refl);
    })

-- one place alone
counts_one : (v : Visit) (f : Fragment) (left : Bool) → left ≡ stays_open v f → sum_by (count_in_frame v) (hole.Fragment f ∷ []) ≡ (if left then 0 else count_below 5 v (hole.Fragment f))
counts_one v f left is =
    let one = sum_by-cons (count_in_frame v) (hole.Fragment f) [] in
    let none : sum_by (count_in_frame v) [] ≡ 0 = refl in
    let same : count_in_frame v (hole.Fragment f) ≡ (if left then 0 else count_below 5 v (hole.Fragment f)) = ap (λ b. if b then 0 else count_below 5 v (hole.Fragment f)) (sym is) in
    omega arith

left_open : (v : Visit) (f : Fragment) (p : Plan (Option ℕ)) (needs : Needs) → Made (open_if true f p) v None (Place (hole.Fragment f) ∷ []) [] needs
unfolding part
left_open v f p needs = ([], refl, (refl, refl, refl))

-- what is met there is told
tells_there : (v : Visit) (path : List ℕ) (f : Fragment) (left : Bool) (old mid : Filled) (new : Cacheability) → Told v f left old mid → TellsMore (met (open_if left f (whole path (element.Fragment f))) v) mid.cacheability new
    → TellsMore (met_in in_frame v (hole.Fragment f ∷ [])) old.cacheability new
tells_there v path f left old mid new told there =
    tells_one in_frame v (hole.Fragment f) (shown_in_frame f (whole path (element.Fragment f))) old.cacheability new
    (ap (option_map (shown_in_frame f)) (stands_there f path v).fill)
    (subst (λ (m : Met). TellsMore m old.cacheability new) (sym (told.meets (whole path (element.Fragment f))))
    (tells_then told.asked (met (open_if left f (whole path (element.Fragment f))) v) old.cacheability mid.cacheability new told.tells there))

open_tells : (v : Visit) (f : Fragment) (p : Plan (Option ℕ)) (old new : Cacheability) → new ≡ old → TellsMore (met (open_if true f p) v) old new
unfolding part
open_tells v f p old new same =
    let none = tells_none old new same in record { tags = none.tags; contexts = none.contexts; age = none.age }

-- a lazy block's place stays open
pub joins_lazy : (v : Visit) (path : List ℕ) (f : Fragment) (old mid new : Filled) → Told v f true old mid → Appends (Place (hole.Fragment f) ∷ []) mid new → Joins in_frame (count_in_frame v) v (Place (hole.Fragment f) ∷ []) old new
joins_lazy v path f old mid new told a = record {
  shown = Place (hole.Fragment f) ∷ [];
  attached = [];
  appended = a.appended ∙ ap (λ (s : List (OfSegment Hole)). pieces_of s ++ Place (hole.Fragment f) ∷ []) told.segments;
  libraries = subst (λ (l : List Library). SameMembers l (old.libraries.items ++ [])) (sym (ap (λ l. l.items) (a.libraries ∙ told.libraries)))
      (subst (λ (l : List Library). SameMembers old.libraries.items l) (sym (append-nil old.libraries.items)) (same_refl old.libraries.items));
  kept = Keeps-trans (needs_of old) (needs_of mid) (needs_of new) (told_keeps v f true old mid told) (keeps_same mid new a.cacheability a.last);
  not_over = λ x. (let first = told.last in let then_last = a.last in omega arith);
  status = a.status ∙ told.status;
  fills = fills_one v (needs_of new) f (whole path (element.Fragment f)) None (Place (hole.Fragment f) ∷ []) [] (stands_there f path v).fill
      (told.made (whole path (element.Fragment f)) None (Place (hole.Fragment f) ∷ []) [] (needs_of new)
      (λ t h. subst (λ (c : Cacheability). Contains c.tags t) (sym a.cacheability) h) (left_open v f (whole path (element.Fragment f)) (needs_of new)));
  told = tells_there v path f true old mid new.cacheability told (open_tells v f (whole path (element.Fragment f)) mid.cacheability new.cacheability a.cacheability);
  counted = λ n is. (let one = counts_one v f true told.open_is in let before = told.built in let then_built = a.built in omega arith);
}

-- what fills it with what stands there
refills : (v : Visit) (needs : Needs) (h : Hole) (g : Plan (Option ℕ) → Plan (Option ℕ)) (p : Plan (Option ℕ)) (o : Option (Plan (Option ℕ))) (shown : List Piece) (attached : List Library) → o ≡ Some p
    → ((status : Option ℕ) (own : List Piece) (libraries : List Library) → Made p v status own libraries needs → Made (g p) v status own libraries needs)
    → FillsPlace o v needs h (Fills (shown_below 5) v needs []) shown attached → FillsPlace (option_map g o) v needs h (Fills in_frame v needs []) shown attached
refills v needs h g p o shown attached is makes =
    subst (λ (o : Option (Plan (Option ℕ))). FillsPlace o v needs h (Fills (shown_below 5) v needs []) shown attached → FillsPlace (option_map g o) v needs h (Fills in_frame v needs []) shown attached) (sym is)
    (λ f. record {
      own = f.own;
      libraries = f.libraries;
      rest = f.rest;
      others = f.others;
      status = f.status;
      shown_is = f.shown_is;
      attached_is = f.attached_is;
      made = makes f.status f.own f.libraries f.made;
      follows = f.follows;
    })

-- any other is filled in
pub joins_fragment : (v : Visit) (path : List ℕ) (f : Fragment) (child old mid new : Filled) → Told v f false old mid → IsWhole (whole path (element.Fragment f)) v (element_count path v (element.Fragment f)) child → Takes child mid new
    → Joins in_frame (count_in_frame v) v (Place (hole.Fragment f) ∷ []) old new
joins_fragment v path f child old mid new told is takes = record {
  shown = j.shown;
  attached = j.attached;
  appended = j.appended ∙ ap (λ (s : List (OfSegment Hole)). pieces_of s ++ j.shown) told.segments;
  libraries = subst (λ l. SameMembers new.libraries.items (l ++ j.attached)) (ap (λ l. l.items) told.libraries) j.libraries;
  kept = Keeps-trans (needs_of old) (needs_of mid) (needs_of new) (told_keeps v f false old mid told) j.kept;
  not_over = λ x. j.not_over (let last = told.last in omega arith);
  status = j.status ∙ told.status;
  fills = refills v (needs_of new) (hole.Fragment f) (shown_in_frame f) (whole path (element.Fragment f)) (shown_below 5 (hole.Fragment f)) j.shown j.attached s.fill
      (λ status own libraries made. told.made (whole path (element.Fragment f)) status own libraries (needs_of new) j.kept.tags made) j.fills;
  told = tells_there v path f false old mid new.cacheability told (tells_child (whole path (element.Fragment f)) v (element_count path v (element.Fragment f)) child mid new is takes);
  counted = λ n same.
      let counts = j.counted n (told.built ∙ same) in
      let one = counts_one v f false told.open_is in
      let cons = sum_by-cons (count_below 5 v) (hole.Fragment f) [] in
      let none : sum_by (count_below 5 v) [] ≡ 0 = refl in
      omega arith;
}
  where
    s : StandsAt 5 path v (hole.Fragment f) (element.Fragment f)
    s = stands_there f path v

    j : Joins (shown_below 5) (count_below 5 v) v (Place (hole.Fragment f) ∷ []) mid new
    j = joins_child (shown_below 5) (count_below 5 v) v (hole.Fragment f) (whole path (element.Fragment f)) (element_count path v (element.Fragment f)) child mid new s.fill s.count is takes

-- the libraries' place stays open
pub joins_meta : (v : Visit) (h : Hole) (old new : Filled) → h ≡ hole.Meta → Appends (Place h ∷ []) old new → Joins in_frame (count_in_frame v) v (Place h ∷ []) old new
joins_meta v h old new is a = joins_open in_frame (count_in_frame v) v h old new (ap in_frame is) (ap (count_in_frame v) is) a

-- ---- the whole page

same_before : (xs ys zs : List Library) → SameMembers xs ys → SameMembers (xs ++ zs) (ys ++ zs)
same_before xs ys zs same = record {
  there = λ x h. elim (in_append xs zs x h) [ inl g ↦ in_left ys zs x (same.there x g) | inr g ↦ in_right ys zs x g ];
  back = λ x h. elim (in_append ys zs x h) [ inl g ↦ in_left xs zs x (same.back x g) | inr g ↦ in_right xs zs x g ];
}

-- what is left open in the frame is filled in
pub page_of_frame : FramesAreFilled → (path : List ℕ) (v : Visit) (frame old new : Filled) → Makes (framed path) v frame → Begins frame old → Joins (shown_below 5) (count_below 5 v) v (pieces_of frame.segments) old new
    → Makes (whole path element.Page) v new
page_of_frame law path v frame old new is begins joins = record {
  makes = record {
    attached = full.attached;
    made = law path v new.status (pieces_of new.segments) full.attached (needs_of new)
        (subst (λ (s : Option ℕ). Made (filled_in (shown_below 5) (framed path)) v s (pieces_of new.segments) full.attached (needs_of new)) (sym (joins.status ∙ begins.status))
        (subst (λ (s : List Piece). Made (filled_in (shown_below 5) (framed path)) v frame.status s full.attached (needs_of new)) (sym shown_is) full.made));
    same = same_trans full.attached (is.makes.attached ++ joins.attached) new.libraries.items full.same
        (same_trans (is.makes.attached ++ joins.attached) (old.libraries.items ++ joins.attached) new.libraries.items
        (subst (λ (l : List Library). SameMembers (is.makes.attached ++ joins.attached) (l ++ joins.attached)) (sym begins.libraries)
        (same_before is.makes.attached frame.libraries.items joins.attached is.makes.same))
        (record { there = joins.libraries.back; back = joins.libraries.there }));
  };
  not_over = joins.not_over (let last = begins.last in let over = is.not_over in omega arith);
}
  where
    kept : Keeps (needs_of frame) (needs_of new)
    kept = subst (λ (n : Needs). Keeps n (needs_of new)) (λ i. record { tags = (begins.cacheability i).tags; contexts = (begins.cacheability i).contexts; last = begins.last i }) joins.kept

    full : MakesWhole (filled_in (shown_below 5) (framed path)) v frame.status joins.shown (is.makes.attached ++ joins.attached) (needs_of new)
    full = filled (shown_below 5) (framed path) v frame.status (pieces_of frame.segments) is.makes.attached (needs_of new) joins.shown joins.attached
        (Made-kept (framed path) v frame.status (pieces_of frame.segments) is.makes.attached (needs_of frame) (needs_of new) kept is.makes.made) joins.fills

    shown_is : pieces_of new.segments ≡ joins.shown
    shown_is = joins.appended ∙ ap (λ (s : List (OfSegment Hole)). pieces_of s ++ joins.shown) begins.segments

-- and it shows the frame, its places filled in
pub fills_frame : (v : Visit) (frame old new : Filled) → Begins frame old → Joins (shown_below 5) (count_below 5 v) v (pieces_of frame.segments) old new → FillsFrame v frame new
fills_frame v frame old new begins joins = record {
  attached = joins.attached;
  libraries = subst (λ (l : List Library). SameMembers new.libraries.items (l ++ joins.attached)) begins.libraries joins.libraries;
  fills = subst (λ (s : List Piece). Fills (shown_below 5) v (needs_of new) (pieces_of frame.segments) s joins.attached) (sym shown_is) joins.fills;
}
  where
    shown_is : pieces_of new.segments ≡ joins.shown
    shown_is = joins.appended ∙ ap (λ (s : List (OfSegment Hole)). pieces_of s ++ joins.shown) begins.segments
