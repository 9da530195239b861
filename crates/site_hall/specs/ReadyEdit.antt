-- An accepted edit, with all that it takes to keep and to publish it.
use Rattle.content_state.specs.State.{State}
use Rattle.content_state.specs.Replay.{step}
use Rattle.content_state.specs.declared.commit.Commit.{Commit}
use Rattle.site_commands.specs.declared.answer.Done.{Done}
use Rattle.site_keeper.specs.Batch.{Batch}
use Rattle.site_keeper.specs.Steps.{batch_of}

-- what is to be kept of an edit, what it did, and the state that it makes
pub record Ready : Type 0 where
  pub batch : Batch
  pub done : Done
  pub state : State

-- the edit of a state
abbrev pub ready_of : State → Commit → Done → Ready
ready_of state commit done = record { batch = batch_of state commit; done = done; state = step state commit }
