-- What all readers of one viewer on one state have in common.
use Rattle.std.specs.Prelude.{ℕ, ◌≡◌, map}
use Rattle.content_state.specs.State.{State}
use Rattle.content_state.specs.declared.ask.Ask.{Ask}
use Rattle.content_state.specs.declared.ask.Viewer.{Viewer}
use Rattle.site_access.specs.Account.{IsAccountOf}
use Rattle.cache_contexts.specs.Values.{visit_on, valued}
use Rattle.element_entries.specs.declared.standing.Standing.{Standing}
use Rattle.element_entries.specs.Keys.{required}

-- It is the viewer's account on the state, and the values that the required contexts have there for the viewer, whatever is asked for
-- and whenever.
pub record IsStandingOf (state : State) (viewer : Viewer) (standing : Standing) : Type 0 where
  pub account : IsAccountOf state.rows viewer standing.account
  pub values : (ask : Ask) (moment : ℕ) → standing.required_values ≡ map (valued (visit_on state viewer ask moment)) required
