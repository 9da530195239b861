-- How long the page of a request stays what it is.
-- https://www.drupal.org/docs/drupal-apis/cache-api/cache-max-age
use Rattle.std.specs.Prelude.{ℕ, List, ◌≡◌, ◌≤◌, None}
use Rattle.content_state.specs.State.{State}
use Rattle.content_state.specs.declared.ask.Ask.{Ask}
use Rattle.render_array.specs.Shown.{IsPage}

-- Where no cookie was sent, the page that is shown on a state at one moment is shown there at each later one until the last.
abbrev pub Lasts : State → Ask → (moment last : ℕ) → (status : ℕ) → (body : List ℕ) → Type 0
Lasts state ask moment last status body =
    ask.cookie ≡ None → (later : ℕ) → moment ≤ later → later ≤ last → IsPage state.rows ask later status body
