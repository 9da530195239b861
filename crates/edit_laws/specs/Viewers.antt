-- Whom a cookie names is a viewer of the state: nobody, or a user who is there.
use Rattle.std.specs.Prelude.{ℕ, List, Option}
use Rattle.content_state.specs.State.{State}
use Rattle.content_state.specs.SiteRules.{IsValidState}
use Rattle.content_state.specs.Viewer.{viewer_of}
use Rattle.site_commands.specs.Right.{IsViewerOf}

-- on every valid state, for every cookie and at every moment
abbrev pub ViewersAreThere : Type 0
ViewersAreThere =
    (state : State) (cookie : Option (List ℕ)) (moment : ℕ)
    → IsValidState state → IsViewerOf state.rows (viewer_of state.rows cookie moment)
