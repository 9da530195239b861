-- What a decision rests on.
use Rattle.std.specs.Prelude.{ℕ, List, []}
use Rattle.cacheability.specs.declared.tag.Tag.{Tag}
use Rattle.cacheability.specs.declared.context.Context.{Context}
use Rattle.content_rows.specs.declared.cell.Cell.{Cell}
use Rattle.content_rows.specs.declared.row.Row.{Row}
use Rattle.content_state.specs.declared.ask.Ask.{Ask}
use Rattle.content_state.specs.declared.ask.Viewer.{Viewer}
use Rattle.content_state.specs.Plan.{Plan, Needs, Made}

-- what a text depends on that reads no clock: it may be shown at any moment
abbrev pub needs_of : List Tag → List Context → Needs
needs_of tags contexts = record { tags = tags; contexts = contexts; last = 18446744073709551615 }

-- Whatever is asked and whenever, the plan gives x for this viewer, shows nothing, and all that it reads is covered by
-- these tags and contexts.
abbrev pub IsDecided : {A : Type 0} → Plan A → List (Cell × Row) → Viewer → A → List Tag → List Context → Type 0
IsDecided p rows viewer x tags contexts =
    (ask : Ask) (moment : ℕ)
    → Made p (record { rows = rows; viewer = viewer; ask = ask; moment = moment }) x [] [] (needs_of tags contexts)
