-- When an edit makes no state, and what it costs to make one.
use Rattle.std.specs.Prelude.{ℕ, List, ◌≡◌, ◌==◌, ◌+◌, ◌*◌, Option, Some, length, max}
use Rattle.std.specs.List.{find}
use Rattle.bucket_map.specs.Buckets.{fullest}
use Rattle.cacheability.specs.declared.tag.Tag.{Tag}
use Rattle.tag_counts.specs.Counts.{count_of}
use Rattle.tag_counts.specs.Key.{tag_place}
use Rattle.cell_keys.specs.Places.{cell_place}
use Rattle.indexed_rows.specs.Cells.{cells_of}
use Rattle.content_state.specs.State.{State}
use Rattle.content_state.specs.declared.commit.Commit.{Commit}
use Rattle.content_state.specs.Replay.{tags_of_commit}
use Rattle.state_commits.specs.declared.applying.ApplyFault.{ApplyFault}
use Rattle.state_commits.specs.declared.applying.ApplyFault.TheVariants as apply_fault

-- the first of some tags whose count is the greatest u64
abbrev pub first_full : List (Tag × ℕ) → List Tag → Option Tag
first_full counts tags = find (λ tag. count_of counts tag == 18_446_744_073_709_551_615) tags

-- the first tag by its text, of those that an edit invalidates, whose count cannot be raised
abbrev pub full_tag : State → Commit → Option Tag
full_tag state commit = first_full state.counts (tags_of_commit state.rows commit)

-- why an edit made no state: a count that cannot be raised, of the first such tag, or memory was wanting
abbrev pub IsFault : State → Commit → ApplyFault → Type 0
IsFault state commit (apply_fault.CountFull tag) = full_tag state commit ≡ Some tag
IsFault state commit apply_fault.OutOfMemory = Unit {0}

-- how many entries the fullest bucket has that an edit touches, be they rows or counts
abbrev pub fullest_touched : State → Commit → ℕ
fullest_touched state commit =
    max (fullest cell_place state.rows (cells_of commit.writes)) (fullest tag_place state.counts (tags_of_commit state.rows commit))

-- how many entries are put into buckets at most: each change of one copies that bucket at most, which has grown by one at most
-- for each change before
abbrev pub steps_of : State → Commit → ℕ
steps_of state commit =
    let writes = length commit.writes in
    let bumps = length (tags_of_commit state.rows commit) in
    (fullest_touched state commit + writes + bumps) * (writes + bumps)
