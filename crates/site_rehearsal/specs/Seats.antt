-- Who takes part in a rehearsal: what each requester has seen, and what it built last.
use Rattle.std.specs.Prelude.{List, Option, Some, None, map}
use Rattle.std.specs.Option.{ForSome}
use Rattle.content_state.specs.State.{State}
use Rattle.content_state.specs.declared.ask.Ask.{Ask}
use Rattle.content_state.specs.declared.ask.Viewer.{Viewer}
use Rattle.content_state.specs.declared.commit.Commit.{Commit}
use Rattle.content_state.specs.Ask.{IsAsk}
use Rattle.content_state.specs.Context.{Visit}
use Rattle.cacheability.specs.declared.context.Context.{Context}
use Rattle.cache_contexts.specs.Values.{visit_on, valued}
use Rattle.cache_entries.specs.declared.entry.Entry.{Entry}
use Rattle.cache_entries.specs.declared.key.Key.{Key}
use Rattle.cache_entries.specs.declared.key.Subject.{Subject}
use Rattle.cache_entries.specs.declared.kept.Bin.{Bin}
use Rattle.cache_entries.specs.Sound.{IsOf, IsAskedFor, IsMadeOn}
use Rattle.element_entries.specs.Keys.{first_contexts}
use Rattle.page_meaning.specs.Meaning.{meaning}

-- what a requester built last: on which state, for whom, who asked for what, and what is kept of it in which bin
pub record Draft : Type 0 where
  pub state : State
  pub viewer : Viewer
  pub ask : Ask
  pub bin : Bin
  pub subject : Subject
  pub entry : Entry

-- the visit that it was built for
abbrev pub visit_of_draft : Draft → Visit
visit_of_draft draft = visit_on draft.state draft.viewer draft.ask draft.entry.made_moment

-- its key, with the values that these contexts had
abbrev pub key_by : Draft → List Context → Key
key_by draft contexts = record { subject = draft.subject; values = map (valued (visit_of_draft draft)) contexts }

-- the contexts of its first key
abbrev pub first_of : Draft → List Context
first_of draft = first_contexts draft.state.rows draft.subject

-- it was made for what is kept of it
pub record IsMade (draft : Draft) : Type 0 where
  pub right : IsAsk draft.ask
  pub asked : IsAskedFor draft.subject draft.viewer draft.ask
  pub made_on : IsMadeOn (meaning draft.subject) draft.subject draft.state draft.viewer draft.ask draft.entry

-- on a state of the log
pub record IsDraft (base : State) (log : List Commit) (draft : Draft) : Type 0 where
  pub of_log : IsOf base log draft.state
  pub made : IsMade draft

-- a requester's state, and what it built last
pub record Seat : Type 0 where
  pub state : State
  pub built : Option Draft

-- who did nothing yet is on the state that was loaded
abbrev pub new_seat : State → Seat
new_seat base = record { state = base; built = None }

abbrev pub seat_or : State → Option Seat → Seat
seat_or base None = new_seat base
seat_or base (Some seat) = seat

-- the requester's state is of the log, and so is what it built
pub record IsSeat (base : State) (log : List Commit) (seat : Seat) : Type 0 where
  pub of_log : IsOf base log seat.state
  pub drafted : ForSome seat.built (IsDraft base log)
