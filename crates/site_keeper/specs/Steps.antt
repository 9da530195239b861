-- The batch of an accepted edit, and what keeping it comes to.
use Rattle.std.specs.Prelude.{ℕ, List, ◌≡◌, ◌+◌, map}
use Rattle.cacheability.specs.declared.tag.Tag.{Tag}
use Rattle.tag_counts.specs.Counts.{count_of}
use Rattle.content_state.specs.State.{State}
use Rattle.content_state.specs.declared.commit.Commit.{Commit}
use Rattle.content_state.specs.Replay.{step, tags_of_commit}
use Rattle.site_keeper.specs.declared.stored.Stored.{Stored}
use Rattle.site_keeper.specs.Batch.{Batch}
use Rattle.site_keeper.specs.Keeper.{with_batch}

-- all that is kept of a state
abbrev pub stored_of : State → Stored
stored_of state = record { rows = state.rows; counts = state.counts; head = state.number }

-- these tags, each with a count that is one more than before
abbrev pub raised : List (Tag × ℕ) → List Tag → List (Tag × ℕ)
raised counts tags = map (λ tag. (tag, count_of counts tag + 1)) tags

-- the batch of an edit that a state accepts
abbrev pub batch_of : State → Commit → Batch
batch_of state commit = record {
  commit = commit;
  counts = raised state.counts (tags_of_commit state.rows commit);
  head = state.number + 1;
}

-- where a state is kept, and then the batch of an edit, the state after the edit is kept
abbrev pub BatchesKeepSteps : Type 0
BatchesKeepSteps =
    (state : State) (commit : Commit) → with_batch (stored_of state) (batch_of state commit) ≡ stored_of (step state commit)
