-- The judgement of an edit on a state, in a log of so many edits, and what makes an accepted one ready.
use Rattle.std.specs.Prelude.{ℕ, List, ◌≡◌, ◌<◌, Option}
use Rattle.content_state.specs.State.{State}
use Rattle.content_state.specs.Replay.{step, IsCommit}
use Rattle.content_state.specs.SiteRules.{IsValidState}
use Rattle.content_state.specs.Viewer.{viewer_of}
use Rattle.content_state.specs.declared.ask.Ask.{Ask}
use Rattle.site_commands.specs.Causes.{Decision, Accepted, Refused}
use Rattle.site_commands.specs.Judged.{judged_on}
use Rattle.site_commands.specs.declared.command.Command.{Command}
use Rattle.site_hall.specs.ReadyEdit.{Ready, ready_of}
use Rattle.site_hall.specs.declared.stop.Stop.{Stop}
use Rattle.site_hall.specs.declared.stop.Stop.TheVariants as stop

-- what is to become of an edit, on a state, in a log of so many edits, for the viewer whom the request's cookie names there
unfoldable pub judged_at : State → ℕ → Ask → Option (List ℕ) → Command → ℕ → ℕ → Decision
judged_at state count ask csrf command now pass =
    judged_on state count (viewer_of state.rows ask.cookie now) csrf command now pass

-- An edit may follow a state, in a log of so many edits: it is one of that state, which it leaves valid, and the log has a place
-- for it.
pub record MayFollow (state : State) (count : ℕ) (ready : Ready) : Type 0 where
  pub of_newest : ready ≡ ready_of state ready.batch.commit ready.done
  pub short : count < 1000000
  pub is_commit : IsCommit ready.batch.commit
  pub valid : IsValidState (step state ready.batch.commit)

-- what was asked for is accepted, bears the number of the pass, and may follow
pub record IsReadyOn (state : State) (count : ℕ) (ask : Ask) (csrf : Option (List ℕ)) (command : Command) (now pass : ℕ) (ready : Ready) : Type 0 where
  pub follows : MayFollow state count ready
  pub accepted : judged_at state count ask csrf command now pass ≡ Accepted ready.batch.commit ready.done
  pub pass_is : ready.batch.commit.pass ≡ pass

-- why nothing is to be kept: the edit is refused, or memory is wanting
abbrev pub IsUnreadyOn : Stop → State → ℕ → Ask → Option (List ℕ) → Command → ℕ → ℕ → Type 0
IsUnreadyOn (stop.Refused refusal) state count ask csrf command now pass = judged_at state count ask csrf command now pass ≡ Refused refusal
IsUnreadyOn stop.Failed state count ask csrf command now pass = ⊥
IsUnreadyOn stop.OutOfMemory state count ask csrf command now pass = Unit {0}

-- somebody asked for an edit, and it was accepted
pub record IsAskedFor (state : State) (count : ℕ) (ready : Ready) : Type 0 where
  pub ask : Ask
  pub csrf : Option (List ℕ)
  pub command : Command
  pub now : ℕ
  pub pass : ℕ
  pub is_ready : IsReadyOn state count ask csrf command now pass ready
