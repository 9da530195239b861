-- The log of a hall, and what an edit makes of its newest state.
use Rattle.std.specs.Prelude.{ℕ, List, ◌≡◌, ◌≤◌, ◌^◌, length}
use Rattle.content_state.specs.State.{State}
use Rattle.content_state.specs.Replay.{step, replay}
use Rattle.content_state.specs.declared.commit.Commit.{Commit}

-- the state that was loaded, the edits that were published since, the first one first, and how many more of them take no
-- memory
pub record Log : Type 0 where
  pub base : State
  pub edits : List Commit
  pub room : ℕ

-- the state that the edits make of the one that was loaded
abbrev pub newest_in : Log → State
newest_in log = replay log.base log.edits

-- how many edits a log has and how great the number of its base is, so that no number leads past a u64
pub record IsLog (base : State) (edits : List Commit) (newest : State) : Type 0 where
  pub newest_is : newest ≡ replay base edits
  pub short : length edits ≤ 1000000
  pub small : base.number ≤ 2 ^ 62

-- an accepted edit, and the state that it makes
pub record Made : Type 0 where
  pub commit : Commit
  pub state : State

-- it is what the edit makes of the newest state of a log
abbrev pub IsNext : Log → Made → Type 0
IsNext log made = made.state ≡ step (newest_in log) made.commit
