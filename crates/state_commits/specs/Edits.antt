-- What every edit leaves as it was, along a log of edits. What is kept of a page rests on it.
-- https://www.drupal.org/docs/drupal-apis/cache-api/cache-tags
use Rattle.std.specs.Prelude.{ℕ, List, ◌≡◌, ◌≤◌, Contains, take}
use Rattle.cacheability.specs.declared.tag.Tag.{Tag}
use Rattle.tag_counts.specs.Counts.{count_of, sum_of, IsInOrder}
use Rattle.content_state.specs.State.{State}
use Rattle.content_state.specs.declared.commit.Commit.{Commit}
use Rattle.content_state.specs.Read.{Read, PathRoute, answer, cover}
use Rattle.content_state.specs.Replay.{step, replay}
use Rattle.indexed_rows.specs.Rows.{InOrder}
use Rattle.content_state.specs.SiteRules.{IsValidState}

-- the state after so many edits of a log, the first ones
abbrev pub after : State → List Commit → ℕ → State
after base log count = replay base (take count log)

-- each cell stands once, in the order of the cells, and each tag once, in the order of the tags' texts
pub record AreInOrder (state : State) : Type 0 where
  pub rows : InOrder state.rows
  pub counts : IsInOrder state.counts

-- a state in order stays so by an edit, and so by the edits of a log
abbrev pub StepsKeepOrder : Type 0
StepsKeepOrder = (state : State) (commit : Commit) → AreInOrder state → AreInOrder (step state commit)

abbrev pub LogsKeepOrder : Type 0
LogsKeepOrder = (base : State) (log : List Commit) (count : ℕ) → AreInOrder base → AreInOrder (after base log count)

-- no count falls, by an edit or along a log
abbrev pub StepsLowerNoCount : Type 0
StepsLowerNoCount =
    (state : State) (commit : Commit) (tag : Tag) → count_of state.counts tag ≤ count_of (step state commit).counts tag

abbrev pub LogsLowerNoCount : Type 0
LogsLowerNoCount =
    (base : State) (log : List Commit) (j k : ℕ) → j ≤ k
    → (tag : Tag) → count_of (after base log j).counts tag ≤ count_of (after base log k).counts tag

-- none of these tags was invalidated more often on the one state than on the other
abbrev pub SameCounts : List Tag → State → State → Type 0
SameCounts tags s t = (tag : Tag) → Contains tags tag → count_of s.counts tag ≡ count_of t.counts tag

-- Of two states of one log, either of which may be the earlier: where the sums of the counts of some tags are equal, the
-- counts of each of them are.
abbrev pub SumsTellCounts : Type 0
SumsTellCounts =
    (base : State) (log : List Commit) (j k : ℕ) (tags : List Tag)
    → sum_of (after base log j).counts tags ≡ sum_of (after base log k).counts tags
    → SameCounts tags (after base log j) (after base log k)

-- a read answers the same on both states, and the same tags cover it
pub record SameRead (read : Read) (s t : State) : Type 0 where
  pub answers : answer s.rows read ≡ answer t.rows read
  pub covers : cover s.rows read ≡ cover t.rows read

-- Only what a path leads to asks for valid states: of two rows with one path the tags of the first one say nothing of the
-- other, and on a valid state there are no two.
abbrev pub AreFitFor : Read → State → State → Type 0
AreFitFor (PathRoute path) s t = IsValidState s × IsValidState t
AreFitFor _ s t = Unit {0}

-- Of two states of one log, either of which may be the earlier: where no tag that covers a read on the first one was
-- invalidated in between, the read is the same on the second one.
abbrev pub CoveredReadsStay : Type 0
CoveredReadsStay =
    (base : State) (log : List Commit) → InOrder base.rows
    → (j k : ℕ) (read : Read) → AreFitFor read (after base log j) (after base log k)
    → SameCounts (cover (after base log j).rows read) (after base log j) (after base log k)
    → SameRead read (after base log j) (after base log k)
