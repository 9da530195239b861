-- What an element that was put together shows, and what is kept of it.
use Rattle.std.proofs.Common.{ℕ, List, [], ◌∷◌, ◌++◌, ◌≡◌, ◌∙◌, refl, sym, ap, subst, append-nil, Option, inl, inr}
use Rattle.html_out.specs.Part.{Part, Text, Hole as Open}
use Rattle.content_state.specs.State.{State}
use Rattle.content_state.specs.declared.ask.Ask.{Ask}
use Rattle.content_state.specs.declared.ask.Viewer.{Viewer}
use Rattle.content_state.specs.declared.element.Fragment.{Fragment}
use Rattle.content_state.specs.declared.element.Hole.{Hole}
use Rattle.content_state.specs.declared.element.Hole.TheVariants as hole
use Rattle.content_state.specs.Ask.{IsAsk}
use Rattle.content_state.specs.Viewer.{viewer_of}
use Rattle.content_state.specs.Context.{Visit}
use Rattle.content_state.specs.Plan.{Piece, Byte, Place, bytes, Plan, Needs, Made}
use Rattle.content_state.specs.Places.{open_places, FillsPlace, Fills, MakesWhole}
use Rattle.cache_contexts.specs.Values.{visit_on}
use Rattle.cache_contexts.proofs.Tests.{head_or_tail, nowhere}
use Rattle.cache_entries.specs.declared.entry.Entry.{Entry}
use Rattle.cache_entries.specs.declared.key.Subject.{Subject}
use Rattle.cache_entries.specs.declared.kept.Bin.{Bin}
use Rattle.cache_entries.specs.Entries.{HasNoParts, IsClosed, pieces_of as pieces_kept}
use Rattle.cache_entries.specs.Sound.{IsAskedFor, IsMadeOn}
use Rattle.page_meaning.specs.Meaning.{meaning, framed}
use Rattle.render_canvas.specs.Board.{pieces_of}
use Rattle.render_array.specs.declared.element.Element.{Element}
use Rattle.render_array.specs.declared.element.Element.TheVariants as element
use Rattle.render_array.specs.Built.{TellsExactly}
use Rattle.render_array.specs.Shown.{meta_text, OnlyMeta, IsFilled}
use Rattle.render_array.specs.Whole.{whole, shown_below, element_level}
use Rattle.render_array.proofs.Leaves.{page_closed, fragment_closed}
use Rattle.renderer.specs.declared.filled.Filled.{Filled}
use Rattle.renderer.specs.Filled.{needs_of, IsWhole}
use Rattle.renderer.proofs.Standing.{empty_at}
use Rattle.renderer.proofs.Texts.{same_meta}
use Rattle.element_entries.specs.Readers.{Reader}
use Rattle.element_entries.specs.Keys.{visit}
use Rattle.element_entries.specs.Making.{IsEntryOf}
use Rattle.element_entries.proofs.Entries.{made_on}
use Rattle.site_rehearsal.specs.Seats.{Draft, IsMade, visit_of_draft}
use Rattle.site_rehearsal.specs.Acts.{subject_of, IsShownAs, IsBuiltFor, FillsText, IsTextOf}
use Rattle.site_rehearsal.specs.Framing.{Makes, FillsFrame}
use Rattle.site_rehearsal.specs.Building.{joined_of, IsKeptOf, HasTextOf, IsText}

-- ---- what is open

same_pieces : (ps : List (Part Hole)) → pieces_kept ps ≡ pieces_of ps
same_pieces [] = refl
same_pieces (Text bs ∷ ps) = ap (λ l. bytes bs ++ l) (same_pieces ps)
same_pieces (Open h ∷ ps) = ap (λ l. Place h ∷ l) (same_pieces ps)

no_parts : (ps : List Piece) → OnlyMeta ps → HasNoParts ps
no_parts [] only f h = nowhere (hole.Fragment f) h
no_parts (Byte b ∷ ps) only f h = no_parts ps only f h
no_parts (Place hole.Meta ∷ ps) only f h = elim (head_or_tail hole.Meta (open_places ps) (hole.Fragment f) h) [
  | inl e ↦ absurd (let same = e in cc)
  | inr g ↦ no_parts ps only f g
]
no_parts (Place (hole.Fragment g) ∷ ps) only f h = absurd only

pub asked_as : (e : Element) (ask : Ask) (viewer : Viewer) → IsAskedFor (subject_of e ask) viewer ask
asked_as element.Page ask viewer = refl
asked_as (element.Fragment f) ask viewer = tt

-- an element that is whole leaves no place open but that of the libraries
whole_closed : (e : Element) (ask : Ask) (state : State) (viewer : Viewer) (now : ℕ) (f : Filled) → MakesWhole (whole ask.path e) (visit_on state viewer ask now) f.status (pieces_of f.segments) f.libraries.items (needs_of f) → OnlyMeta (pieces_of f.segments)
whole_closed element.Page ask state viewer now f makes = page_closed ask.path (visit_on state viewer ask now) f.status (pieces_of f.segments) makes.attached (needs_of f) makes.made
whole_closed (element.Fragment g) ask state viewer now f makes = fragment_closed ask.path g (visit_on state viewer ask now) f.status (pieces_of f.segments) makes.attached (needs_of f) makes.made

-- its text shows it
pub shown_as : (e : Element) (state : State) (viewer : Viewer) (ask : Ask) (now : ℕ) (f : Filled) (text : List ℕ) → viewer ≡ viewer_of state.rows ask.cookie now
    → Makes (whole ask.path e) (visit_on state viewer ask now) f → IsText f text → IsShownAs e state ask now text
shown_as e state viewer ask now f text named is filled = record {
  status = f.status;
  shown = pieces_of f.segments;
  libraries = is.makes.attached;
  shows = record {
    needs = needs_of f;
    not_over = is.not_over;
    made = subst (λ (w : Viewer). Made (whole ask.path e) (visit_on state w ask now) f.status (pieces_of f.segments) is.makes.attached (needs_of f)) named is.makes.made;
  };
  filled = subst (λ m. IsFilled m (pieces_of f.segments) text) (sym (same_meta is.makes.attached f.libraries.items is.makes.same))
      (filled (whole_closed e ask state viewer now f is.makes));
}

-- so it does where it is whole, however many elements were built for it
pub whole_makes : {p : Plan (Option ℕ)} {v : Visit} {count : ℕ} {f : Filled} → IsWhole p v count f → Makes p v f
whole_makes is = record { makes = is.makes; not_over = is.not_over }

-- and tells just what its plan meets
pub whole_exact : {p : Plan (Option ℕ)} {v : Visit} {count : ℕ} {f : Filled} → IsWhole p v count f → TellsExactly p v f.cacheability
whole_exact is = is.exact

-- the frame of a page is kept as it was put together
pub kept_page : (state : State) (viewer : Viewer) (ask : Ask) (now : ℕ) (f : Filled) → Makes (framed ask.path) (visit_on state viewer ask now) f → TellsExactly (framed ask.path) (visit_on state viewer ask now) f.cacheability
    → IsKeptOf element.Page state viewer ask now f
kept_page state viewer ask now f is exact = record { makes = is.makes; closed = tt; exact = exact }

-- a fragment is kept as it was put together
pub kept_fragment : (g : Fragment) (state : State) (viewer : Viewer) (ask : Ask) (now count : ℕ) (f : Filled)
    → IsWhole (whole ask.path (element.Fragment g)) (visit_on state viewer ask now) count f → IsKeptOf (element.Fragment g) state viewer ask now f
kept_fragment g state viewer ask now count f is = record {
  makes = is.makes;
  closed = no_parts (pieces_of f.segments) (whole_closed (element.Fragment g) ask state viewer now f is.makes);
  exact = is.exact;
}

-- its entry was made of what is kept of it
pub entry_made : (r : Reader) (e : Element) (f : Filled) (entry : Entry) → IsKeptOf e r.state r.viewer r.ask r.moment f → IsEntryOf r (joined_of f) entry
    → IsMadeOn (meaning (subject_of e r.ask)) (subject_of e r.ask) r.state r.viewer r.ask entry
entry_made r e f entry is of = made_on (meaning (subject_of e r.ask)) (subject_of e r.ask) r (joined_of f) entry of
    (subst (λ ps. MakesWhole (meaning (subject_of e r.ask)) (visit r) f.status ps f.libraries.items (needs_of f)) (sym (same_pieces f.segments)) is.makes)
    (subst (λ ps. IsClosed (subject_of e r.ask) ps) (sym (same_pieces f.segments)) is.closed)

-- so what may be kept was made for it
pub is_made : (r : Reader) (e : Element) (f : Filled) (entry : Entry) (there state : State) (asked : Ask) (bin : Bin) (subject : Subject) → IsEntryOf r (joined_of f) entry → r.state ≡ there → IsKeptOf e there r.viewer r.ask r.moment f
    → IsAsk r.ask → state ≡ there → subject ≡ subject_of e r.ask → asked ≡ r.ask → IsMade (record { state = state; viewer = r.viewer; ask = asked; bin = bin; subject = subject; entry = entry })
is_made r e f entry there state asked bin subject of on is right state_is subject_is ask_is =
    subst IsMade (λ i. record { state = (on ∙ sym state_is) i; viewer = r.viewer; ask = (sym ask_is) i; bin = bin; subject = (sym subject_is) i; entry = entry }) made
  where
    made : IsMade (record { state = r.state; viewer = r.viewer; ask = r.ask; bin = bin; subject = subject_of e r.ask; entry = entry })
    made = record {
      right = right;
      asked = asked_as e r.ask r.viewer;
      made_on = entry_made r e f entry (subst (λ (s : State). IsKeptOf e s r.viewer r.ask r.moment f) (sym on) is) of;
    }

-- ---- its text

-- nothing but the place of the libraries is left, which stays open
pub fills_itself : (level : ℕ) (v : Visit) (needs : Needs) (ps : List Piece) → OnlyMeta ps → Fills (shown_below level) v needs ps ps []
fills_itself level v needs [] only = (refl, refl)
fills_itself level v needs (Byte b ∷ ps) only = (ps, refl, fills_itself level v needs ps only)
fills_itself level v needs (Place hole.Meta ∷ ps) only =
    subst (λ o. FillsPlace o v needs hole.Meta (Fills (shown_below level) v needs ps) (Place hole.Meta ∷ ps) []) (sym (empty_at level v hole.Meta refl).fill)
    (record { rest = ps; shown_is = refl; follows = fills_itself level v needs ps only })
fills_itself level v needs (Place (hole.Fragment f) ∷ ps) only = absurd only

-- the text of a fragment
pub fragment_text : (g : Fragment) (ask : Ask) (state : State) (viewer : Viewer) (now : ℕ) (f : Filled) (text : List ℕ) → Makes (whole ask.path (element.Fragment g)) (visit_on state viewer ask now) f → IsText f text
    → FillsText (shown_below (element_level (element.Fragment g))) (visit_on state viewer ask now) (pieces_of f.segments) f.libraries.items text
fragment_text g ask state viewer now f text is filled =
    let only = whole_closed (element.Fragment g) ask state viewer now f is.makes in
    record {
      shown = pieces_of f.segments;
      attached = [];
      needs = needs_of f;
      not_over = is.not_over;
      fills = fills_itself (element_level (element.Fragment g)) (visit_on state viewer ask now) (needs_of f) (pieces_of f.segments) only;
      filled = subst (λ ls. IsFilled (meta_text ls) (pieces_of f.segments) text) (sym (append-nil f.libraries.items)) (filled only);
    }

-- the text of a page
pub page_text_of : (ask : Ask) (state : State) (viewer : Viewer) (now : ℕ) (frame page : Filled) (text : List ℕ) → Makes (whole ask.path element.Page) (visit_on state viewer ask now) page → FillsFrame (visit_on state viewer ask now) frame page → IsText page text
    → FillsText (shown_below (element_level element.Page)) (visit_on state viewer ask now) (pieces_of frame.segments) frame.libraries.items text
page_text_of ask state viewer now frame page text is fills filled = record {
  shown = pieces_of page.segments;
  attached = fills.attached;
  needs = needs_of page;
  not_over = is.not_over;
  fills = fills.fills;
  filled = subst (λ m. IsFilled m (pieces_of page.segments) text) (same_meta page.libraries.items (frame.libraries.items ++ fills.attached) fills.libraries)
      (filled (whole_closed element.Page ask state viewer now page is.makes));
}

-- it is that of the draft
pub text_of_draft : (e : Element) (state : State) (viewer : Viewer) (ask : Ask) (now : ℕ) (f : Filled) (draft : Draft) (text : List ℕ) → viewer ≡ viewer_of state.rows ask.cookie now → IsBuiltFor e state ask now draft → HasTextOf f draft.entry
    → FillsText (shown_below (element_level e)) (visit_on state viewer ask now) (pieces_of f.segments) f.libraries.items text → IsTextOf e draft text
text_of_draft e state viewer ask now f draft text named built has fills =
    subst (λ (v : Visit). FillsText (shown_below (element_level e)) v (pieces_kept draft.entry.segments) draft.entry.libraries text) (sym visits)
    (subst (λ ps. FillsText (shown_below (element_level e)) (visit_on state viewer ask now) ps draft.entry.libraries text) (sym (ap pieces_kept has.segments ∙ same_pieces f.segments))
    (subst (λ ls. FillsText (shown_below (element_level e)) (visit_on state viewer ask now) (pieces_of f.segments) ls text) (sym has.libraries) fills))
  where
    visits : visit_of_draft draft ≡ visit_on state viewer ask now
    visits = λ i. visit_on (built.state_is i) ((built.viewer_is ∙ sym named) i) (built.ask_is i) (built.moment_is i)
