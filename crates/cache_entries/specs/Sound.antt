-- When what is kept is sound: it was made on a state of the log, and depends on no more than it says.
-- https://www.drupal.org/docs/drupal-apis/render-api/cacheability-of-render-arrays
use Rattle.std.specs.Prelude.{ℕ, List, ◌≡◌, ◌≤◌, Option, Contains, length, map}
use Rattle.std.specs.Arc.{arc_value}
use Rattle.cacheability.specs.declared.context.Context.{Context}
use Rattle.cacheability.specs.declared.tag.Tag.TheVariants as tag
use Rattle.tag_counts.specs.Counts.{sum_of}
use Rattle.content_state.specs.State.{State}
use Rattle.content_state.specs.declared.ask.Ask.{Ask}
use Rattle.content_state.specs.declared.ask.Viewer.{Viewer}
use Rattle.content_state.specs.declared.commit.Commit.{Commit}
use Rattle.content_state.specs.Ask.{IsAsk}
use Rattle.content_state.specs.Context.{Visit}
use Rattle.content_state.specs.Plan.{Plan}
use Rattle.content_state.specs.Viewer.{nobody}
use Rattle.indexed_rows.specs.Rows.{InOrder}
use Rattle.content_state.specs.SiteRules.{IsValidState}
use Rattle.state_commits.specs.Edits.{after}
use Rattle.cache_contexts.specs.Values.{visit_on, valued}
use Rattle.cache_entries.specs.declared.entry.Entry.{Entry}
use Rattle.cache_entries.specs.declared.key.Key.{Key}
use Rattle.cache_entries.specs.declared.key.Subject.{Subject}
use Rattle.cache_entries.specs.declared.key.Subject.TheVariants as subject
use Rattle.cache_entries.specs.declared.kept.Found.{Found}
use Rattle.cache_entries.specs.declared.kept.Found.TheVariants as found
use Rattle.cache_entries.specs.declared.kept.Kept.{Kept}
use Rattle.cache_entries.specs.declared.kept.Kept.TheVariants as kept
use Rattle.cache_entries.specs.Entries.{Meaning, Has}

-- a state of a log, the one after so many of its edits; it is valid
pub record IsOf (base : State) (log : List Commit) (state : State) : Type 0 where
  pub in_order : InOrder base.rows
  pub count : ℕ
  pub within : count ≤ length log
  pub state_is : state ≡ after base log count
  pub valid : IsValidState state

-- what is asked for is what is kept: the page of that path, or of that target, which is kept for nobody alone
abbrev pub IsAskedFor : Subject → Viewer → Ask → Type 0
IsAskedFor (subject.Fragment f) viewer ask = Unit {0}
IsAskedFor (subject.Page path) viewer ask = ask.path ≡ path
IsAskedFor (subject.Target target) viewer ask = (ask.target ≡ target) × (viewer ≡ nobody)

-- a visit fits a key: it asks for what is kept, and the key has the values of some contexts there
pub record Fits (key : Key) (v : Visit) : Type 0 where
  pub contexts : List Context
  pub values : key.values ≡ map (valued v) contexts
  pub asked : IsAskedFor key.subject v.viewer v.ask

-- An entry was made on a state, for a viewer and what was asked for: it has what its plan shows there, the values of its
-- contexts, and the sum of the counts of its tags; `rendered` is one of them.
pub record IsMadeOn (p : Plan (Option ℕ)) (s : Subject) (state : State) (viewer : Viewer) (ask : Ask) (e : Entry) : Type 0 where
  pub made_at : e.made_at ≡ state.number
  pub has : Has p s (visit_on state viewer ask e.made_moment) e
  pub values : e.values ≡ map (valued (visit_on state viewer ask e.made_moment)) e.cacheability.contexts
  pub sum : e.sum ≡ sum_of state.counts e.cacheability.tags
  pub rendered : Contains e.cacheability.tags tag.Rendered

-- an entry is sound over a log: it was made on some state of it, for some viewer and something asked for that fit the key
pub record IsSound (meaning : Meaning) (base : State) (log : List Commit) (key : Key) (e : Entry) : Type 0 where
  pub state : State
  pub of_log : IsOf base log state
  pub viewer : Viewer
  pub ask : Ask
  pub right : IsAsk ask
  pub fits : Fits key (visit_on state viewer ask e.made_moment)
  pub made_on : IsMadeOn (meaning key.subject) key.subject state viewer ask e

-- what is kept or found under a key is sound, where it is an entry
abbrev pub IsSoundKept : Meaning → State → List Commit → Key → Kept → Type 0
IsSoundKept meaning base log key (kept.Entry e) = IsSound meaning base log key (arc_value e)
IsSoundKept meaning base log key (kept.Redirect contexts) = Unit {0}

abbrev pub IsSoundFound : Meaning → State → List Commit → Key → Found → Type 0
IsSoundFound meaning base log key (found.Entry e) = IsSound meaning base log key (arc_value e)
IsSoundFound meaning base log key (found.Redirect contexts) = Unit {0}
IsSoundFound meaning base log key found.Absent = Unit {0}
