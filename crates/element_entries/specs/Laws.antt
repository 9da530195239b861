-- Laws of entries that are made of what was put together.
use Rattle.std.specs.Prelude.{ℕ, ◌≤◌, Option}
use Rattle.content_state.specs.Plan.{Plan}
use Rattle.content_state.specs.Places.{MakesWhole}
use Rattle.cache_entries.specs.declared.entry.Entry.{Entry}
use Rattle.cache_entries.specs.declared.key.Subject.{Subject}
use Rattle.cache_entries.specs.Entries.{pieces_of, IsClosed, IsFresh}
use Rattle.cache_entries.specs.Sound.{IsMadeOn}
use Rattle.element_entries.specs.declared.making.Joined.{Joined}
use Rattle.element_entries.specs.Readers.{Reader}
use Rattle.element_entries.specs.Keys.{visit}
use Rattle.element_entries.specs.Making.{needs_of, IsEntryOf}

-- Where a plan makes what was put together for a reader, an entry of it is made by that plan on the reader's state.
abbrev pub EntriesAreMadeOn : Type 0
EntriesAreMadeOn =
    (p : Plan (Option ℕ)) (s : Subject) (r : Reader) (j : Joined) (e : Entry) → IsEntryOf r j e
    → MakesWhole p (visit r) j.status (pieces_of j.segments) j.libraries.items (needs_of j) → IsClosed s (pieces_of j.segments)
    → IsMadeOn p s r.state r.viewer r.ask e

-- It is fresh there, where it isn't over.
abbrev pub EntriesAreFresh : Type 0
EntriesAreFresh =
    (r : Reader) (j : Joined) (e : Entry) → IsEntryOf r j e → r.moment ≤ j.last
    → IsFresh r.state r.viewer r.ask r.moment e
