-- What an edit costs: how many entries are put into buckets.
use Rattle.std.proofs.Common.{ℕ, zero, suc, List, [], ◌∷◌, ◌≡◌, ◌≤◌, ◌<◌, ◌+◌, ◌*◌, length, get_or, take, fold, refl, sym, ◌∙◌, ap, subst, arith, Some, None}
use Rattle.std.specs.Prelude.{map, max}
use Rattle.std.proofs.lemmas.List.{length-map}
use Rattle.bucket_map.specs.Buckets.{bucket_size, AtMost, fullest}
use Rattle.bucket_map.proofs.Sizes.{size_put, size_cut, steps_more, at_most_grows, at_most_fullest, max-left, max-right}
use Rattle.std.specs.BTreeMap.{is_at}
use Rattle.cacheability.specs.declared.tag.Tag.{Tag}
use Rattle.tag_counts.specs.Key.{tag_place}
use Rattle.content_rows.specs.declared.cell.Cell.{Cell}
use Rattle.content_rows.specs.declared.row.Row.{Row}
use Rattle.content_rows.specs.CellOrder.{cell_cmp}
use Rattle.cell_keys.specs.Places.{cell_place}
use Rattle.content_state.specs.State.{State}
use Rattle.content_state.specs.declared.commit.Commit.{Commit}
use Rattle.indexed_rows.specs.declared.write.Write.{Write}
use Rattle.indexed_rows.specs.Write.{written}
use Rattle.content_state.specs.Replay.{tags_of_commit}
use Rattle.indexed_rows.specs.Cells.{cells_of}
use Rattle.state_commits.specs.Apply.{fullest_touched, steps_of}

-- ---- the fullest bucket of an edit

pub rows_at_most : (state : State) (commit : Commit) → AtMost cell_place state.rows (fullest_touched state commit) (cells_of commit.writes)
rows_at_most state commit =
    let rows = fullest cell_place state.rows (cells_of commit.writes) in
    let counts = fullest tag_place state.counts (tags_of_commit state.rows commit) in
    at_most_grows cell_place state.rows rows (max rows counts) (cells_of commit.writes) (max-left rows counts) (at_most_fullest cell_place state.rows (cells_of commit.writes))

pub counts_at_most : (state : State) (commit : Commit) → AtMost tag_place state.counts (fullest_touched state commit) (tags_of_commit state.rows commit)
counts_at_most state commit =
    let rows = fullest cell_place state.rows (cells_of commit.writes) in
    let counts = fullest tag_place state.counts (tags_of_commit state.rows commit) in
    at_most_grows tag_place state.counts counts (max rows counts) (tags_of_commit state.rows commit) (max-right rows counts) (at_most_fullest tag_place state.counts (tags_of_commit state.rows commit))

pub cost_of_edit : (state : State) (commit : Commit) (rows : List (Cell × Row)) (counts : List (Tag × ℕ)) (writes : List Write) (tags : List Tag) (before new : ℕ)
    → rows ≡ state.rows → counts ≡ state.counts → writes ≡ commit.writes → tags ≡ tags_of_commit state.rows commit
    → ((most : ℕ) → AtMost cell_place rows most (cells_of writes) → AtMost tag_place counts most tags → new ≤ before + (most + length writes + length tags) * (length writes + length tags))
    → new ≤ before + steps_of state commit
cost_of_edit state commit rows counts writes tags before new rows_is counts_is writes_is tags_is cost =
    let most = fullest_touched state commit in
    let own : AtMost cell_place rows most (cells_of writes) =
    subst (λ r. AtMost cell_place r most (cells_of writes)) (sym rows_is) (subst (λ ws. AtMost cell_place state.rows most (cells_of ws)) (sym writes_is) (rows_at_most state commit)) in
    let bumped : AtMost tag_place counts most tags =
    subst (λ cs. AtMost tag_place cs most tags) (sym counts_is) (subst (λ ts. AtMost tag_place state.counts most ts) (sym tags_is) (counts_at_most state commit)) in
    subst (λ ts. new ≤ before + (most + length commit.writes + length ts) * (length commit.writes + length ts)) tags_is
    (subst (λ ws. new ≤ before + (most + length ws + length tags) * (length ws + length tags)) writes_is (cost most own bumped))
