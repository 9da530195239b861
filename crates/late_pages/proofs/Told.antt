-- What was needed for a page whose parts are sent late, and what became of what is kept.
use Rattle.std.proofs.Common.{ℕ, List, ◌≡◌, ◌≤◌, min, refl, ap, subst, sym, true, false, Bool, arith, Option, Some, None, inl, inr}
use Rattle.std.specs.Arc.{arc_value}
use Rattle.std.specs.declared.sync.Arc.{Arc}
use Rattle.std.specs.declared.alloc.Global.{Global}
use Rattle.cacheability.specs.declared.context.Context.{Context}
use Rattle.content_rows.specs.declared.cell.Cell.{Cell}
use Rattle.content_rows.specs.declared.row.Row.{Row}
use Rattle.content_state.specs.declared.ask.Ask.{Ask}
use Rattle.content_state.specs.declared.ask.Viewer.{Viewer}
use Rattle.content_state.specs.declared.element.Fragment.{Fragment}
use Rattle.content_state.specs.declared.element.Hole.{Hole}
use Rattle.content_state.specs.declared.element.Hole.TheVariants as hole
use Rattle.content_state.specs.Context.{Visit}
use Rattle.content_state.specs.Entities.{is_json}
use Rattle.content_state.specs.Met.{met_nothing}
use Rattle.content_state.specs.Viewer.{viewer_of}
use Rattle.cache_entries.specs.declared.entry.Entry.{Entry}
use Rattle.cache_entries.specs.declared.key.Subject.{Subject}
use Rattle.cache_entries.specs.declared.key.Subject.TheVariants as subject
use Rattle.cache_entries.specs.declared.kept.Bin.{Bin}
use Rattle.cache_entries.specs.declared.kept.Bin.TheVariants as bin
use Rattle.cache_entries.specs.Entries.{IsHere}
use Rattle.page_meaning.specs.Meaning.{meaning}
use Rattle.render_array.specs.declared.element.Element.TheVariants as element
use Rattle.render_array.specs.Shown.{page_count}
use Rattle.render_array.specs.Whole.{fragment_level, element_count}
use Rattle.element_entries.specs.Readers.{Reader}
use Rattle.element_entries.specs.Keys.{visit}
use Rattle.site_house.specs.House.{HouseView}
use Rattle.kept_pages.specs.declared.looking.Seen.{Seen}
use Rattle.kept_pages.specs.Needed.{NeededBelow, FragmentBy, OfFragment, OfFrame, OfRequest, either_shape}
use Rattle.kept_pages.specs.Went.{Went, Done, Found, Built, OfElement, number_built}
use Rattle.kept_pages.specs.Held.{Shelves, IsTold, first_of, StaysKept, SeenIn, IsToldBy, Goes, Tells}
use Rattle.kept_pages.proofs.Counting.{tells_none, tells_map, tells_found}
use Rattle.kept_pages.proofs.Most.{frame_at_most}
use Rattle.kept_pages.proofs.Shelves.{stays-then}
use Rattle.kept_pages.proofs.Using.{stays_back, stays_held, goes_to}
use Rattle.late_pages.specs.Needed.{OfOpened, OpenedFor, OfFirst, OfPart}

-- ---- after a look that found nothing

-- what a redirect told before is what it tells
told_before : (r : Reader) (a b : Shelves) (d : Bin) (s : Subject) (o : Option (List Context)) → StaysKept a b → IsToldBy r b d s o → IsToldBy r a d s o
told_before r a b d s None stays told = λ second c there. told second c ((stays.things d).there (first_of r s, _) there)
told_before r a b d s (Some c) stays told = (
  told.0,
  record {
    there = (stays.things d).back (first_of r s, _) told.1.there;
    only = λ other there. told.1.only other ((stays.things d).there (first_of r s, other) there);
  },
)

-- where what was kept stays, what became of it became of it from the beginning
goes_before : (r : Reader) (a b : Shelves) (t : Went) (new : Shelves) → StaysKept a b → Goes r b t new → Goes r a t new
goes_before r a b Done new stays goes = stays-then a b new stays goes
goes_before r a b (Found d s e rest) new stays (held, (mid, kept, others)) = (stays_back r a b stays d s e held, (mid, stays-then a b mid stays kept, others))
goes_before r a b (Built d s e inner rest) new stays (not_held, (told, looked, filled, kept, is_told, looks, fills, closes, others)) = (
  λ held. not_held (stays_held r a b stays d s held),
  (told, looked, filled, kept, told_before r a b d s told stays is_told, stays-then a b looked stays looks, fills, closes, others),
)

-- what was needed after the look was needed
pub tells_after : (r : Reader) (Shape : Went → Type 0) (b : Bin) (s : Subject) (seen : Seen) (old mid new : HouseView) (built built' : ℕ)
    → ((shelves : Shelves) → IsTold old shelves → SeenIn r shelves b s seen mid) → Tells r Shape mid new built built' → Tells r Shape old new built built'
tells_after r Shape b s seen old mid new built built' looked t = record {
  tree = t.tree;
  shape = t.shape;
  counted = t.counted;
  goes = λ shelves told.
      let l = looked shelves told in
      let g = t.goes l.after l.is in
      goes_to r shelves t.tree new g.after g.is (goes_before r shelves l.after t.tree g.after l.stays g.goes);
}

-- ---- what is sent first

-- the whole page of the target was found
pub tells_target : (r : Reader) (e : Arc Entry Global) (seen : Seen) (old new : HouseView) → seen.entry ≡ Some e
    → ((shelves : Shelves) → IsTold old shelves → SeenIn r shelves bin.Anonymous (subject.Target r.ask.target) seen new) → Tells r (OpenedFor None (visit r)) old new 0 0
tells_target r e seen old new is looked =
    tells_map r (OfElement (visit r) met_nothing (λ t. ⊥) bin.Anonymous (subject.Target r.ask.target) (arc_value e)) (OpenedFor None (visit r)) old new 0 0
    (λ t of. elim of [
      | inl found ↦ inl (record { entry = arc_value e; is = found })
      | inr built ↦ absurd built.of_places
    ])
    (tells_found r met_nothing (λ t. ⊥) bin.Anonymous (subject.Target r.ask.target) e seen old new is looked)

-- it wasn't, and what is kept of the page of the path was found or built
pub tells_beside : (r : Reader) (seen : Seen) (old mid new : HouseView) (built : ℕ)
    → ((shelves : Shelves) → IsTold old shelves → SeenIn r shelves bin.Anonymous (subject.Target r.ask.target) seen mid) → Tells r (OfOpened (visit r)) mid new 0 built → Tells r (OpenedFor None (visit r)) old new 0 built
tells_beside r seen old mid new built looked t =
    tells_map r (OfOpened (visit r)) (OpenedFor None (visit r)) old new 0 built (λ u opened. inr opened)
    (tells_after r (OfOpened (visit r)) bin.Anonymous (subject.Target r.ask.target) seen old mid new 0 built looked t)

pub tells_opened : (r : Reader) (page : Entry) (old new : HouseView) (built : ℕ) → IsHere meaning (subject.Page r.ask.path) (visit r) page → Tells r (OfFrame r.ask.path (visit r) page) old new 0 built → Tells r (OfOpened (visit r)) old new 0 built
tells_opened r page old new built here t =
    tells_map r (OfFrame r.ask.path (visit r) page) (OfOpened (visit r)) old new 0 built (λ u frame. record { page = page; here = here; frame = frame }) t

-- by whether there is a session
pub tells_session : (r : Reader) (o : Option (List ℕ)) (token : List ℕ) (old new : HouseView) (built : ℕ) → o ≡ Some token → Tells r (OfOpened (visit r)) old new 0 built → Tells r (OpenedFor o (visit r)) old new 0 built
tells_session r o token old new built is t = subst (λ (s : Option (List ℕ)). Tells r (OpenedFor s (visit r)) old new 0 built) (sym is) t

pub tells_nobody : (r : Reader) (o : Option (List ℕ)) (old new : HouseView) (built : ℕ) → o ≡ None → Tells r (OpenedFor None (visit r)) old new 0 built → Tells r (OpenedFor o (visit r)) old new 0 built
tells_nobody r o old new built is t = subst (λ (s : Option (List ℕ)). Tells r (OpenedFor s (visit r)) old new 0 built) (sym is) t

first_html : (b : Bool) (One Other : Went → Type 0) (t : Went) → b ≡ false → Other t → either_shape b One Other t
first_html true One Other t html of = absurd (let impossible = html in cc)
first_html false One Other t html of = of

first_json : (b : Bool) (One Other : Went → Type 0) (t : Went) → b ≡ true → One t → either_shape b One Other t
first_json true One Other t json of = of
first_json false One Other t json of = absurd (let impossible = json in cc)

-- by whether the path is one of JSON
pub tells_html : (r : Reader) (v : Visit) (old new : HouseView) (built : ℕ) → is_json v.ask.path ≡ false → Tells r (OpenedFor v.viewer.session v) old new 0 built → Tells r (OfFirst v) old new 0 built
tells_html r v old new built html t = tells_map r (OpenedFor v.viewer.session v) (OfFirst v) old new 0 built (λ u of. first_html (is_json v.ask.path) (OfRequest v) (OpenedFor v.viewer.session v) u html of) t

pub tells_json : (r : Reader) (v : Visit) (old new : HouseView) (built : ℕ) → is_json v.ask.path ≡ true → Tells r (OfRequest v) old new 0 built → Tells r (OfFirst v) old new 0 built
tells_json r v old new built json t = tells_map r (OfRequest v) (OfFirst v) old new 0 built (λ u of. first_json (is_json v.ask.path) (OfRequest v) (OpenedFor v.viewer.session v) u json of) t

-- ---- how many were built

opened_most : (o : Option (List ℕ)) (v : Visit) (t : Went) → OpenedFor o v t → number_built t ≤ element_count v.ask.path v element.Page
opened_most None v t (inl found) = let none = ap number_built found.is in omega arith
opened_most None v t (inr opened) = frame_at_most v.ask.path v opened.page t opened.frame
opened_most (Some token) v t opened = frame_at_most v.ask.path v opened.page t opened.frame

pub first_at_most : (r : Reader) (o : Option (List ℕ)) (old new : HouseView) (rows : List (Cell × Row)) (viewer : Viewer) (ask : Ask) (moment built : ℕ) → viewer ≡ viewer_of rows ask.cookie moment
    → Tells r (OpenedFor o (record { rows = rows; viewer = viewer; ask = ask; moment = moment })) old new 0 built → built ≤ min (page_count rows ask moment) 18446744073709551615
first_at_most r o old new rows viewer ask moment built named told =
    subst (λ (w : Viewer). built ≤ min (element_count ask.path (record { rows = rows; viewer = w; ask = ask; moment = moment }) element.Page) 18446744073709551615) named
    (let counted = told.counted 0 refl in
    let most = opened_most o (record { rows = rows; viewer = viewer; ask = ask; moment = moment }) told.tree told.shape in
    omega arith)

-- ---- a part

pub tells_part : (r : Reader) (v : Visit) (f : Fragment) (e : Entry) (old new : HouseView) (built : ℕ) → Tells r (FragmentBy (NeededBelow (fragment_level f) v) v f e) old new 0 built → Tells r (OfFragment (NeededBelow (fragment_level f) v) v f) old new 0 built
tells_part r v f e old new built t =
    tells_map r (FragmentBy (NeededBelow (fragment_level f) v) v f e) (OfFragment (NeededBelow (fragment_level f) v) v f) old new 0 built (λ u by. record { entry = e; element = by }) t

pub tells_no_part : (r : Reader) (v : Visit) (h : Hole) (house : HouseView) → h ≡ hole.Meta → Tells r (OfPart v h) house house 0 0
tells_no_part r v h house is = subst (λ (g : Hole). Tells r (OfPart v g) house house 0 0) (sym is) (tells_none r (OfPart v hole.Meta) house 0 refl)

pub tells_fragment : (r : Reader) (v : Visit) (f : Fragment) (h : Hole) (e : Entry) (old new : HouseView) (child built : ℕ) → h ≡ hole.Fragment f → built ≡ child
    → Tells r (FragmentBy (NeededBelow (fragment_level f) v) v f e) old new 0 child → Tells r (OfPart v h) old new 0 built
tells_fragment r v f h e old new child built is same t =
    subst (λ (g : Hole). Tells r (OfPart v g) old new 0 built) (sym is)
    (subst (λ (n : ℕ). Tells r (OfPart v (hole.Fragment f)) old new 0 n) (sym same) (tells_part r v f e old new child t))
