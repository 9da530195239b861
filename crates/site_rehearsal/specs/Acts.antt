-- What each act of a requester answers, and what it leaves.
-- https://www.drupal.org/docs/drupal-apis/cache-api/cache-api
use Rattle.std.specs.Prelude.{ℕ, List, ◌++◌, ◌≡◌, ◌≤◌, ◌↔◌, Bool, true, false, Option, Some, None, Ok, IsTrue}
use Rattle.std.specs.Arc.{arc_value}
use Rattle.content_state.specs.State.{State}
use Rattle.content_state.specs.Viewer.{viewer_of}
use Rattle.content_state.specs.declared.ask.Ask.{Ask}
use Rattle.content_state.specs.declared.element.Library.{Library}
use Rattle.content_state.specs.Context.{Visit}
use Rattle.content_state.specs.Plan.{Piece, Plan, Needs, Shows}
use Rattle.content_state.specs.Places.{Filling, Fills}
use Rattle.cacheability.specs.declared.cacheability.Cacheability.{Cacheability}
use Rattle.cacheability.specs.declared.context.Context.{Context}
use Rattle.site_commands.specs.declared.answer.Answer.{Answer}
use Rattle.site_commands.specs.declared.answer.Answer.TheVariants as answer
use Rattle.cache_entries.specs.declared.key.Subject.{Subject}
use Rattle.cache_entries.specs.declared.key.Subject.TheVariants as subject
use Rattle.cache_entries.specs.declared.kept.Bin.{Bin}
use Rattle.cache_entries.specs.declared.kept.Bin.TheVariants as bin
use Rattle.cache_entries.specs.declared.kept.Found.{Found}
use Rattle.cache_entries.specs.declared.kept.Found.TheVariants as found
use Rattle.cache_entries.specs.Entries.{IsFresh, pieces_of}
use Rattle.fragment_cache.specs.Bins.{Bins, Thing, Whole, Towards, LooksIn, KeepsIn}
use Rattle.element_entries.specs.Keeping.{second_contexts}
use Rattle.element_entries.specs.Making.{Bubbles}
use Rattle.page_meaning.specs.Meaning.{meaning}
use Rattle.render_array.specs.declared.element.Element.{Element}
use Rattle.render_array.specs.declared.element.Element.TheVariants as element
use Rattle.render_array.specs.Built.{TellsExactly}
use Rattle.render_array.specs.Whole.{whole, shown_below, element_level}
use Rattle.render_array.specs.Shown.{visit_of, meta_text, IsFilled}
use Rattle.site_hall.specs.Stock.{bins_in}
use Rattle.site_hall.specs.Hall.{HallView, with_stock, number_of, Answers}
use Rattle.site_hall.specs.Looked.{IsSoundIn, LooksUp, StaysBeside}
use Rattle.site_hall.specs.Ready.{newest_of_hall}
use Rattle.site_rehearsal.specs.Seats.{Draft, Seat, IsMade, visit_of_draft, key_by, first_of}
use Rattle.site_rehearsal.specs.declared.turn.Act.{Act}
use Rattle.site_rehearsal.specs.declared.turn.Act.TheVariants as act
use Rattle.site_rehearsal.specs.declared.turn.Reply.{Reply}
use Rattle.site_rehearsal.specs.declared.turn.Reply.TheVariants as reply

-- ---- looking

-- what was found is an entry that is fresh on the requester's state, for the viewer that the cookie names there
abbrev pub IsFreshFound : State → Ask → ℕ → Found → Type 0
IsFreshFound state ask now (found.Entry e) = IsFresh state (viewer_of state.rows ask.cookie now) ask now (arc_value e)
IsFreshFound state ask now (found.Redirect contexts) = ⊥
IsFreshFound state ask now found.Absent = ⊥

-- ---- building

-- the element, its places filled in, shows this text on a state, to the viewer that the cookie names there
pub record IsShownAs (element : Element) (state : State) (ask : Ask) (now : ℕ) (text : List ℕ) : Type 0 where
  pub status : Option ℕ
  pub shown : List Piece
  pub libraries : List Library
  pub shows : Shows (whole ask.path element) (visit_of state.rows ask now) status shown libraries
  pub filled : IsFilled (meta_text libraries) shown text

-- what is kept of an element that was asked for, and in which bin
abbrev pub subject_of : Element → Ask → Subject
subject_of element.Page ask = subject.Page ask.path
subject_of (element.Fragment f) ask = subject.Fragment f

abbrev pub bin_of : Element → Bin
bin_of element.Page = bin.Dynamic
bin_of (element.Fragment f) = bin.Fragments

-- it was built for this requester
pub record IsBuiltFor (element : Element) (state : State) (ask : Ask) (now : ℕ) (draft : Draft) : Type 0 where
  pub state_is : draft.state ≡ state
  pub viewer_is : draft.viewer ≡ viewer_of state.rows ask.cookie now
  pub ask_is : draft.ask ≡ ask
  pub moment_is : draft.entry.made_moment ≡ now
  pub subject_is : draft.subject ≡ subject_of element ask
  pub bin_is : draft.bin ≡ bin_of element

-- What is kept says what bubbles of just what its plan met on a visit: no tag, no context and no age of anything else.
pub record SaysJust (p : Plan (Option ℕ)) (v : Visit) (said : Cacheability) : Type 0 where
  pub needed : Cacheability
  pub exact : TellsExactly p v needed
  pub bubbles : Bubbles v needed said

abbrev pub SaysAll : Draft → Type 0
SaysAll draft = SaysJust (meaning draft.subject) (visit_of_draft draft) draft.entry.cacheability

-- Pieces whose places are filled in by what stands there on a visit, with these libraries and those of the places, are this text.
pub record FillsText (fill : Filling) (v : Visit) (pieces : List Piece) (libraries : List Library) (text : List ℕ) : Type 0 where
  pub shown : List Piece
  pub attached : List Library
  pub needs : Needs
  pub not_over : v.moment ≤ needs.last
  pub fills : Fills fill v needs pieces shown attached
  pub filled : IsFilled (meta_text (libraries ++ attached)) shown text

-- the entry's text, its places filled in, is the text that was told
abbrev pub IsTextOf : Element → Draft → List ℕ → Type 0
IsTextOf element draft text =
    FillsText (shown_below (element_level element)) (visit_of_draft draft) (pieces_of draft.entry.segments) draft.entry.libraries text

-- ---- keeping

-- the contexts of a redirect
abbrev pub told_by : Option Thing → Option (List Context)
told_by None = None
told_by (Some (Whole e)) = None
told_by (Some (Towards contexts)) = Some contexts

-- Where there is no second key the entry stands at the first one; else a redirect stands there, and then the entry at the second key.
abbrev pub KeepsBehind : Option (List Context) → Draft → Bins → Bins → Type 0
KeepsBehind None draft old new = KeepsIn old draft.bin (key_by draft (first_of draft)) (Whole draft.entry) new
KeepsBehind (Some contexts) draft old new = (mid : Bins) × KeepsIn old draft.bin (key_by draft (first_of draft)) (Towards contexts) mid
    × KeepsIn mid draft.bin (key_by draft contexts) (Whole draft.entry) new

-- What was built is kept: what stands at the first key is looked up, and where that is a redirect, its contexts are those of the
-- second key too.
pub record KeepsDraft (draft : Draft) (old new : Bins) : Type 0 where
  pub looked : Bins
  pub found : Option Thing
  pub looks : LooksIn old draft.bin (key_by draft (first_of draft)) found looked
  pub keeps : KeepsBehind (second_contexts (first_of draft) (told_by found) draft.entry.cacheability.contexts) draft looked new

-- ---- acts

-- the state of a requester after an edit: an accepted one is the newest that it sees
abbrev pub state_after : Answer → HallView → State → State
state_after (answer.Done done number) hall state = newest_of_hall hall
state_after (answer.Refused refusal number) hall state = state
state_after answer.Keeper hall state = state
state_after answer.OutOfMemory hall state = state

-- no edit is answered that the keeper failed, or that memory was wanting
abbrev pub IsAnswer : Answer → Type 0
IsAnswer (answer.Done done number) = Unit {0}
IsAnswer (answer.Refused refusal number) = Unit {0}
IsAnswer answer.Keeper = ⊥
IsAnswer answer.OutOfMemory = ⊥

-- what was built last is kept, where something was built
abbrev pub KeepsBuilt : Option Draft → Bool → HallView → HallView → Type 0
KeepsBuilt None kept old new = (kept ≡ false) × (new ≡ old)
KeepsBuilt (Some draft) kept old new = (kept ≡ true) × KeepsDraft draft (bins_in old.stock) (bins_in new.stock) × (new ≡ with_stock old new.stock)

-- An act of the requester of a number, by what it answers: what it leaves of the engine and of the requester's seat.
abbrev pub Acts : Act → Reply → ℕ → HallView → Seat → HallView → Seat → Type 0
Acts act.Snapshot (reply.Snapshot number) n old seat new seat' =
    (number ≡ number_of old) × (new ≡ old) × (seat' ≡ record seat { state = newest_of_hall old })
Acts (act.Commit command csrf ask now) (reply.Commit answer) n old seat new seat' =
    IsAnswer answer × Answers answer old new ask csrf command now n
    × (seat' ≡ record seat { state = state_after answer new seat.state })
Acts (act.Look bin key ask now) (reply.Look found fresh) n old seat new seat' =
    (LooksUp (Ok found) old.stock new.stock bin key × StaysBeside old new) × IsSoundIn new key found × (IsTrue fresh ↔ IsFreshFound seat.state ask now found)
    × (seat' ≡ seat)
Acts (act.Build element ask now) (reply.Build text) n old seat new seat' =
    (new ≡ old) × IsShownAs element seat.state ask now text
    × ((draft : Draft) × IsBuiltFor element seat.state ask now draft × IsMade draft × SaysAll draft
    × IsTextOf element draft text × (seat' ≡ record seat { built = Some draft }))
Acts act.Keep (reply.Keep kept) n old seat new seat' = KeepsBuilt seat.built kept old new × (seat' ≡ seat)
Acts _ _ n old seat new seat' = ⊥
