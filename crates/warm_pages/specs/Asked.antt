-- What is asked for, and by whom, where a page is rendered before anybody asks for it.
use Rattle.std.specs.Prelude.{ℕ, List, None}
use Rattle.content_state.specs.State.{State}
use Rattle.content_state.specs.declared.ask.Ask.{Ask}
use Rattle.content_state.specs.Ask.{path_of, query_of}
use Rattle.content_state.specs.Viewer.{nobody}
use Rattle.element_entries.specs.Readers.{Reader}

-- what a request for a target asks for that sends no cookie
abbrev pub asked : List ℕ → Ask
asked target = record { target = target; path = path_of target; query = query_of target; cookie = None }

-- nobody's session asks for it, on a state at a moment
abbrev pub reader_of : State → ℕ → List ℕ → Reader
reader_of state moment target = record { state = state; viewer = nobody; ask = asked target; moment = moment }
