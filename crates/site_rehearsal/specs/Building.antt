-- Elements that were put together, on the way to what is kept of them.
use Rattle.std.specs.Prelude.{ℕ, List, ◌≡◌}
use Rattle.content_state.specs.State.{State}
use Rattle.content_state.specs.declared.ask.Ask.{Ask}
use Rattle.content_state.specs.declared.ask.Viewer.{Viewer}
use Rattle.content_state.specs.Places.{MakesWhole}
use Rattle.cache_contexts.specs.Values.{visit_on}
use Rattle.cache_entries.specs.declared.entry.Entry.{Entry}
use Rattle.cache_entries.specs.Entries.{IsClosed}
use Rattle.page_meaning.specs.Meaning.{meaning}
use Rattle.render_canvas.specs.Board.{pieces_of}
use Rattle.render_array.specs.declared.element.Element.{Element}
use Rattle.render_array.specs.Built.{TellsExactly}
use Rattle.render_array.specs.Shown.{meta_text, OnlyMeta, IsFilled}
use Rattle.renderer.specs.declared.filled.Filled.{Filled}
use Rattle.renderer.specs.Filled.{needs_of}
use Rattle.element_entries.specs.declared.making.Joined.{Joined}
use Rattle.site_rehearsal.specs.Acts.{subject_of}

-- all but how many elements were built
abbrev pub joined_of : Filled → Joined
joined_of f = record { segments = f.segments; cacheability = f.cacheability; libraries = f.libraries; last = f.last; status = f.status }

-- On a visit it is what is kept of an element.
pub record IsKeptOf (element : Element) (state : State) (viewer : Viewer) (ask : Ask) (now : ℕ) (f : Filled) : Type 0 where
  pub makes : MakesWhole (meaning (subject_of element ask)) (visit_on state viewer ask now) f.status (pieces_of f.segments) f.libraries.items (needs_of f)
  pub closed : IsClosed (subject_of element ask) (pieces_of f.segments)
  pub exact : TellsExactly (meaning (subject_of element ask)) (visit_on state viewer ask now) f.cacheability

-- its entry has what is shown and attached
pub record HasTextOf (f : Filled) (e : Entry) : Type 0 where
  pub segments : e.segments ≡ f.segments
  pub libraries : e.libraries ≡ f.libraries.items

-- the text of it, where no place but that of the libraries is open
abbrev pub IsText : Filled → List ℕ → Type 0
IsText f text = OnlyMeta (pieces_of f.segments) → IsFilled (meta_text f.libraries.items) (pieces_of f.segments) text
