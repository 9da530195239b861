-- For whom something is shown.
use Rattle.std.specs.Prelude.{ℕ}
use Rattle.content_state.specs.State.{State}
use Rattle.content_state.specs.declared.ask.Ask.{Ask}
use Rattle.content_state.specs.declared.ask.Viewer.{Viewer}

-- on which state, to whom, who asks for what, and when, in seconds since 1970
pub record Reader : Type 0 where
  pub state : State
  pub viewer : Viewer
  pub ask : Ask
  pub moment : ℕ
