-- What is kept of pages: what it depends on, what it shows, and when it is fresh.
-- https://www.drupal.org/docs/drupal-apis/cache-api/cache-api
use Rattle.std.specs.Prelude.{ℕ, List, [], ◌∷◌, ◌++◌, ◌≡◌, ◌≤◌, Option, Contains, map}
use Rattle.html_out.specs.Part.{Part, Text, Hole as Open}
use Rattle.tag_counts.specs.Counts.{sum_of}
use Rattle.content_state.specs.State.{State}
use Rattle.content_state.specs.declared.ask.Ask.{Ask}
use Rattle.content_state.specs.declared.ask.Viewer.{Viewer}
use Rattle.content_state.specs.declared.element.Fragment.{Fragment}
use Rattle.content_state.specs.declared.element.Hole.{Hole}
use Rattle.content_state.specs.declared.element.Hole.TheVariants as hole
use Rattle.content_state.specs.Context.{Visit}
use Rattle.content_state.specs.Plan.{Piece, Place, bytes, Plan, Needs}
use Rattle.content_state.specs.Places.{open_places, MakesWhole}
use Rattle.cache_contexts.specs.Values.{visit_on, valued}
use Rattle.cache_contexts.specs.declared.context_value.ContextValue.{ContextValue}
use Rattle.cache_entries.specs.declared.entry.Entry.{Entry}
use Rattle.cache_entries.specs.declared.key.Subject.{Subject}
use Rattle.cache_entries.specs.declared.key.Subject.TheVariants as subject

-- what is kept shows, by a plan; a page gives its status
abbrev pub Meaning : Type 0
Meaning = Subject → Plan (Option ℕ)

-- the pieces of segments
abbrev pub pieces_of : List (Part Hole) → List Piece
pieces_of [] = []
pieces_of (Text bs ∷ parts) = bytes bs ++ pieces_of parts
pieces_of (Open h ∷ parts) = Place h ∷ pieces_of parts

-- what an entry depends on
abbrev pub needs_of : Entry → Needs
needs_of e = record { tags = e.cacheability.tags; contexts = e.cacheability.contexts; last = e.last }

-- no place of a part is open: the parts are filled in
abbrev pub HasNoParts : List Piece → Type 0
HasNoParts pieces = (f : Fragment) → Contains (open_places pieces) (hole.Fragment f) → ⊥

-- in the page of a path the places stay open of what is for one viewer alone; all else is whole
abbrev pub IsClosed : Subject → List Piece → Type 0
IsClosed (subject.Fragment f) pieces = HasNoParts pieces
IsClosed (subject.Page path) pieces = Unit {0}
IsClosed (subject.Target target) pieces = HasNoParts pieces

-- On the visit the plan gives the entry's status, shows its segments and attaches its libraries, in some order, and all
-- that it reads is covered by what the entry depends on.
pub record Has (p : Plan (Option ℕ)) (s : Subject) (v : Visit) (e : Entry) : Type 0 where
  pub makes : MakesWhole p v e.status (pieces_of e.segments) e.libraries (needs_of e)
  pub closed : IsClosed s (pieces_of e.segments)

-- what the entry has may be shown on the visit
pub record IsHere (meaning : Meaning) (s : Subject) (v : Visit) (e : Entry) : Type 0 where
  pub has : Has (meaning s) s v e
  pub not_over : v.moment ≤ e.last

-- An entry is fresh by these values at a moment: its contexts have these values, its tags were invalidated as often as
-- the state says, and the moment is none before that at which it was made and none after its last.
pub record IsFreshBy (state : State) (values : List ContextValue) (moment : ℕ) (e : Entry) : Type 0 where
  pub values_are : e.values ≡ values
  pub sum : e.sum ≡ sum_of state.counts e.cacheability.tags
  pub not_before : e.made_moment ≤ moment
  pub not_after : moment ≤ e.last

-- an entry is fresh on a state, for a viewer and what is asked for, at a moment
abbrev pub IsFresh : State → Viewer → Ask → ℕ → Entry → Type 0
IsFresh state viewer ask moment e =
    IsFreshBy state (map (valued (visit_on state viewer ask moment)) e.cacheability.contexts) moment e

-- Where an entry was made on a state of this number, its sum is that of this state: there is one state of each number in a log.
abbrev pub HasSumOfNumber : State → Entry → Type 0
HasSumOfNumber state e = e.made_at ≡ state.number → e.sum ≡ sum_of state.counts e.cacheability.tags
