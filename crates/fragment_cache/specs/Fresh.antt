-- What is sound and fresh is shown.
-- https://www.drupal.org/docs/drupal-apis/render-api/cacheability-of-render-arrays
use Rattle.std.specs.Prelude.{ℕ, List, ◌≡◌, ◌≤◌}
use Rattle.tag_counts.specs.Counts.{sum_of}
use Rattle.content_state.specs.State.{State}
use Rattle.content_state.specs.declared.ask.Ask.{Ask}
use Rattle.content_state.specs.declared.ask.Viewer.{Viewer}
use Rattle.content_state.specs.declared.commit.Commit.{Commit}
use Rattle.content_state.specs.Ask.{IsAsk}
use Rattle.content_state.specs.Plan.{Needs}
use Rattle.content_state.specs.Replay.{Begins}
use Rattle.cache_contexts.specs.LeftOut.{SameValues}
use Rattle.cache_contexts.specs.Values.{visit_on}
use Rattle.cache_entries.specs.declared.entry.Entry.{Entry}
use Rattle.cache_entries.specs.declared.key.Key.{Key}
use Rattle.cache_entries.specs.Entries.{Meaning, IsHere, IsFresh}
use Rattle.cache_entries.specs.Sound.{IsOf, IsSound}
use Rattle.fragment_cache.specs.Determined.{Agree}

-- Of two states of one log, either of which may be the earlier: where the counts of the tags come to the same, the contexts
-- have the same values, and the second moment is no earlier, the visits agree on what is needed.
abbrev pub StatesAgree : Type 0
StatesAgree =
    (base : State) (log : List Commit) (s t : State) → IsOf base log s → IsOf base log t
    → (viewer viewer' : Viewer) (ask ask' : Ask) (moment moment' : ℕ) → IsAsk ask → IsAsk ask' → (needs : Needs)
    → sum_of s.counts needs.tags ≡ sum_of t.counts needs.tags
    → SameValues needs.contexts (visit_on s viewer ask moment) (visit_on t viewer' ask' moment')
    → moment ≤ moment'
    → Agree (visit_on s viewer ask moment) (visit_on t viewer' ask' moment') needs

-- An entry that is sound over a log, and fresh on a state of it, earlier or later than the one that it was made on, has there
-- what its key's plan shows, and may be shown.
abbrev pub FreshIsShown : Type 0
FreshIsShown =
    (meaning : Meaning) (base : State) (log : List Commit) (key : Key) (e : Entry)
    → (state : State) (viewer : Viewer) (ask : Ask) (moment : ℕ)
    → IsOf base log state → IsAsk ask → IsSound meaning base log key e → IsFresh state viewer ask moment e
    → IsHere meaning key.subject (visit_on state viewer ask moment) e

-- what is sound over a log is so when it has grown
abbrev pub SoundStays : Type 0
SoundStays =
    (meaning : Meaning) (base : State) (log new : List Commit) (key : Key) (e : Entry)
    → Begins log new → IsSound meaning base log key e → IsSound meaning base new key e
