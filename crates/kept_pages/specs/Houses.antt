-- What a house does while a page is put together, for whom that is, and what was made for a reader.
use Rattle.std.specs.Prelude.{◌≡◌, ◌≤◌}
use Rattle.content_state.specs.Ask.{IsAsk}
use Rattle.content_state.specs.Viewer.{nobody}
use Rattle.cache_entries.specs.declared.entry.Entry.{Entry}
use Rattle.cache_entries.specs.declared.key.Subject.{Subject}
use Rattle.cache_entries.specs.Sound.{IsAskedFor, IsMadeOn}
use Rattle.page_meaning.specs.Meaning.{meaning}
use Rattle.element_entries.specs.Readers.{Reader}
use Rattle.site_house.specs.House.{HouseView, Moves, Stays}
use Rattle.site_house.specs.Bins.{IsSeenIn}

-- the house goes on, and nothing is handed in
pub record Steady (old new : HouseView) : Type 0 where
  pub moves : Moves old new
  pub stays : Stays old new

-- a reader reads a state that the house has seen, and asks for what its target says
pub record Reads (house : HouseView) (r : Reader) : Type 0 where
  pub seen : IsSeenIn house r.state
  pub right : IsAsk r.ask

-- an entry was made for a reader, of something that it asks for, and may be shown to it
pub record IsMadeFor (r : Reader) (s : Subject) (e : Entry) : Type 0 where
  pub made_on : IsMadeOn (meaning s) s r.state r.viewer r.ask e
  pub moment : e.made_moment ≡ r.moment
  pub not_over : r.moment ≤ e.last
  pub asked : IsAskedFor s r.viewer r.ask

-- Nobody reads the state of the number that an entry was made on, at a moment that is none before that at which it was made and none
-- after its last.
pub record IsCurrent (r : Reader) (e : Entry) : Type 0 where
  pub viewer : r.viewer ≡ nobody
  pub made_at : e.made_at ≡ r.state.number
  pub not_before : e.made_moment ≤ r.moment
  pub not_after : r.moment ≤ e.last
