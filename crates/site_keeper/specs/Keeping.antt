-- What a keeper has kept of the edits of a log.
use Rattle.std.specs.Prelude.{List, [], ◌∷◌, ◌++◌, ◌≡◌, ◌⊎◌, Option, Some, None}
use Rattle.content_state.specs.State.{State}
use Rattle.content_state.specs.Replay.{step}
use Rattle.content_state.specs.declared.commit.Commit.{Commit}
use Rattle.site_keeper.specs.Batch.{Batch}
use Rattle.site_keeper.specs.Keeper.{Kept, IfTold, and_batch}
use Rattle.site_keeper.specs.Steps.{stored_of, batch_of}

-- the batches of the edits of a log, one after the other
abbrev pub batches_of : State → List Commit → List Batch
batches_of state [] = []
batches_of state (commit ∷ commits) = batch_of state commit ∷ batches_of (step state commit) commits

-- what is told once these batches more are kept
abbrev pub and_batches : Option Kept → List Batch → Option Kept
and_batches kept [] = kept
and_batches kept (batch ∷ batches) = and_batches (and_batch kept batch) batches

-- the edits that were published and the one that is pending
abbrev pub with_pending : List Commit → Option Commit → List Commit
with_pending log None = log
with_pending log (Some commit) = log ++ commit ∷ []

-- a keeper that tells this holds this state, where it tells
abbrev pub HoldsState : Option Kept → State → Type 0
HoldsState kept state = IfTold kept (λ held. held ≡ stored_of state)

-- A keeper told the first of these when this base was loaded, and tells the second now: it has kept the edits of this log since, and
-- no others.
abbrev pub HasKept : State → Option Kept → Option Kept → List Commit → Type 0
HasKept base told kept log = kept ≡ and_batches told (batches_of base log)

-- it has kept just the published edits, or the pending one besides
abbrev pub KeepsFor : State → Option Kept → Option Kept → List Commit → Option Commit → Type 0
KeepsFor base told kept log pending = HasKept base told kept log ⊎ HasKept base told kept (with_pending log pending)
