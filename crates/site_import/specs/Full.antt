-- The counts that an edit cannot raise.
use Rattle.std.specs.Prelude.{ℕ, List, Bool, ◌==◌, Option, option_map, find}
use Rattle.std.specs.List.{list_any}
use Rattle.cacheability.specs.declared.tag.Tag.{Tag}
use Rattle.content_rows.specs.declared.cell.Cell.{Cell}
use Rattle.tag_counts.specs.Counts.{count_of}
use Rattle.content_state.specs.Replay.{tags_of_write}
use Rattle.content_state.specs.State.{State}
use Rattle.indexed_rows.specs.Write.{Write}

-- whether the count of a tag is the greatest u64
abbrev pub is_full : List (Tag × ℕ) → Tag → Bool
is_full counts tag = count_of counts tag == 18_446_744_073_709_551_615

-- whether a write invalidates a tag whose count is full
abbrev pub finds_full : State → Write → Bool
finds_full state write = list_any (is_full state.counts) (tags_of_write state.rows write)

-- the cell of the first such write
abbrev pub first_full_cell : State → List Write → Option Cell
first_full_cell state writes = option_map (λ w. w.cell) (find (finds_full state) writes)
