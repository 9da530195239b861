-- The committed states that the replies of a caller are of.
use Rattle.std.specs.Prelude.{ℕ, List, ◌++◌, ◌≡◌, ◌≤◌, ◌+◌, ◌-◌, length, take}
use Rattle.content_state.specs.State.{State}
use Rattle.content_state.specs.declared.commit.Commit.{Commit}
use Rattle.content_state.specs.Replay.{state_at}
use Rattle.content_state.specs.SiteRules.{IsValidState}

-- the state that was loaded, the edits since that the caller has seen, and the number of the caller's pass, which its
-- edits bear
pub record History : Type 0 where
  pub base : State
  pub log : List Commit
  pub pass : ℕ

-- a history, and more edits
abbrev pub longer : History → List Commit → History
longer history more = record history { log = history.log ++ more }

-- the number of the newest state that a log makes of a base
abbrev pub newest_of : State → List Commit → ℕ
newest_of base log = base.number + length log

abbrev pub newest : History → ℕ
newest history = newest_of history.base history.log

-- the edits that make the state of a number of the base
abbrev pub log_to : History → ℕ → List Commit
log_to history number = take (number - history.base.number) history.log

-- the state of a number
abbrev pub state_of : History → ℕ → State
state_of history number = state_at history.base history.log number

-- A number that the history has, that of its base or that after one of its edits, and that isn't below an earlier one.
-- The state of that number bears it, and is valid.
pub record OnLog (history : History) (low number : ℕ) : Type 0 where
  pub from_base : history.base.number ≤ number
  pub from : low ≤ number
  pub to : number ≤ newest history
  pub number_is : (state_of history number).number ≡ number
  pub valid : IsValidState (state_of history number)
