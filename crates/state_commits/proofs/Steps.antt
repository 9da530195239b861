-- What one edit keeps: what its tags don't name.
use Rattle.std.proofs.Common.{List, [], ◌∷◌, ◌++◌, ◌≡◌, ◌≢◌, ◌≤◌, ◌⊎◌, refl, sym, ◌∙◌, ap, subst, arith, inl, inr, Option, Some, None, Contains, fold, flat_map}
use Rattle.std.specs.List.{AllByRecursion, filter_map}
use Rattle.std.proofs.lemmas.List.Elements.{Contains-append_left, Contains-append_right}
use Rattle.cacheability.specs.declared.tag.Tag.{Tag}
use Rattle.cacheability.specs.Tag.{tag_cmp}
use Rattle.cacheability.proofs.InOrder.{Contains-union}
use Rattle.tag_counts.specs.Counts.{count_of}
use Rattle.tag_counts.proofs.Tags.{tag_cmp_exact}
use Rattle.content_rows.specs.CellOrder.{cell_cmp}
use Rattle.content_rows.proofs.CellLemmas.{cell_cmp_exact, cell_cmp_total}
use Rattle.content_rows.specs.declared.cell.Cell.{Cell}
use Rattle.content_rows.specs.declared.row.Row.{Row}
use Rattle.std.specs.BTreeMap.{is_at}
use Rattle.content_state.specs.State.{State}
use Rattle.indexed_rows.specs.Write.{Write, with_row_or_none, written}
use Rattle.content_state.specs.declared.commit.Commit.{Commit}
use Rattle.indexed_rows.specs.Rows.{row_at, InOrder}
use Rattle.content_state.specs.Replay.{bumps, tags_of_write, tags_of_commit, step}
use Rattle.state_commits.specs.Edits.{AreInOrder}
use Rattle.state_commits.proofs.Entries.{same_or_not, found_put_same, found_put_other, found_cut_same, found_cut_other, ordered_put, ordered_cut, gathered_put, gathered_cut}
use Rattle.state_commits.proofs.Counted.{all_up, named_up, counts_ordered}

-- one write: what is found at its cell and at others, and the order
pub at_its_cell : (rows : List (Cell × Row)) (d : Cell) (r : Option Row) → InOrder rows → row_at (with_row_or_none rows d r) d ≡ r
at_its_cell rows d None sorted = found_cut_same cell_cmp cell_cmp_total cell_cmp_exact rows d sorted
at_its_cell rows d (Some x) sorted = found_put_same cell_cmp cell_cmp_total cell_cmp_exact rows d x

pub elsewhere : (rows : List (Cell × Row)) (d : Cell) (r : Option Row) (c : Cell) → InOrder rows → c ≢ d → row_at (with_row_or_none rows d r) c ≡ row_at rows c
elsewhere rows d None c sorted apart = found_cut_other cell_cmp cell_cmp_total cell_cmp_exact rows d c sorted apart
elsewhere rows d (Some x) c sorted apart = found_put_other cell_cmp cell_cmp_total cell_cmp_exact rows d x c apart

pub one_ordered : (rows : List (Cell × Row)) (d : Cell) (r : Option Row) → InOrder rows → InOrder (with_row_or_none rows d r)
one_ordered rows d None sorted = ordered_cut cell_cmp cell_cmp_total cell_cmp_exact (is_at (cell_cmp d)) rows sorted
one_ordered rows d (Some x) sorted = ordered_put cell_cmp cell_cmp_total cell_cmp_exact rows d x sorted

-- all writes
pub rows_ordered : (writes : List Write) (rows : List (Cell × Row)) → InOrder rows → InOrder (fold written rows writes)
rows_ordered [] rows sorted = sorted
rows_ordered (w ∷ writes) rows sorted = rows_ordered writes (written rows w) (one_ordered rows w.cell w.row sorted)

pub step_ordered : (state : State) (commit : Commit) → InOrder state.rows → InOrder (step state commit).rows
unfolding step
step_ordered state commit sorted = rows_ordered commit.writes state.rows sorted

pub step_in_order : (state : State) (commit : Commit) → AreInOrder state → AreInOrder (step state commit)
unfolding step
step_in_order state commit sorted = record {
  rows = rows_ordered commit.writes state.rows sorted.rows;
  counts = counts_ordered (tags_of_commit state.rows commit) state.counts sorted.counts;
}

pub step_up : (state : State) (commit : Commit) (g : Tag) → count_of state.counts g ≤ count_of (step state commit).counts g
unfolding step
step_up state commit g = all_up (tags_of_commit state.rows commit) state.counts g

-- a write does not invalidate a tag
abbrev pub IsSilent : Tag → List (Cell × Row) → Write → Type 0
IsSilent g rows w = Contains (tags_of_write rows w) g → ⊥

all_silent : (g : Tag) (rows : List (Cell × Row)) (writes : List Write) → (Contains (flat_map (tags_of_write rows) writes) g → ⊥) → AllByRecursion (IsSilent g rows) writes
all_silent g rows [] never = tt
all_silent g rows (w ∷ writes) never = (
  λ held. never (Contains-append_left (tags_of_write rows w) (flat_map (tags_of_write rows) writes) g held),
  all_silent g rows writes (λ held. never (Contains-append_right (tags_of_write rows w) (flat_map (tags_of_write rows) writes) g held)),
)

-- where the count of a tag stays, no write invalidated it
silent_by : (state : State) (commit : Commit) (g : Tag) → count_of state.counts g ≡ count_of (step state commit).counts g → AllByRecursion (IsSilent g state.rows) commit.writes
unfolding step
silent_by state commit g same = all_silent g state.rows commit.writes (λ held.
    let own = flat_map (tags_of_write state.rows) commit.writes in
    let named : Contains (tags_of_commit state.rows commit) g = (Contains-union tag_cmp tag_cmp_exact [] (own ++ commit.extra) g).1 (inr (Contains-append_left own commit.extra g held)) in
    let up = named_up (tags_of_commit state.rows commit) state.counts g named in
    omega arith)

-- each write to the cell invalidates the tag
abbrev pub Names : Cell → Tag → Type 0
Names c g = (old new : Option Row) → Contains (bumps c old new) g

-- the row at a cell stays where no write is to that cell
untouched : (c : Cell) (g : Tag) → Names c g → (first : List (Cell × Row)) (writes : List Write) (rows : List (Cell × Row)) → InOrder rows → AllByRecursion (IsSilent g first) writes → row_at rows c ≡ row_at (fold written rows writes) c
untouched c g names first [] rows sorted silent = refl
untouched c g names first (w ∷ writes) rows sorted silent =
    sym (elsewhere rows w.cell w.row c sorted (λ same. silent.0 (subst (λ d. Contains (bumps d (row_at first w.cell) w.row) g) same (names (row_at first w.cell) w.row))))
    ∙ untouched c g names first writes (written rows w) (one_ordered rows w.cell w.row sorted) silent.1

pub step_keeps_row : (state : State) (commit : Commit) → InOrder state.rows → (c : Cell) (g : Tag) → Names c g → count_of state.counts g ≡ count_of (step state commit).counts g → row_at state.rows c ≡ row_at (step state commit).rows c
unfolding step
step_keeps_row state commit sorted c g names same =
    untouched c g names state.rows commit.writes state.rows sorted (silent_by state commit g same)

-- What is gathered along the rows: a write that does not invalidate the tag has nothing to do with it, neither by the row
-- that stood there nor by the one that it puts there.
abbrev pub Tells : {Y : Type 0} → (Cell × Row → Option Y) → Tag → Type 0
Tells f g = (c : Cell) (old new : Option Row) → (Contains (bumps c old new) g → ⊥) → (x : Row) → (old ≡ Some x) ⊎ (new ≡ Some x) → f (c, x) ≡ None

module _ {Y : Type 0} (f : Cell × Row → Option Y) where
  -- nothing is gathered of what stands at its cell, nor of what it puts there
  record IsUnseen (rows : List (Cell × Row)) (w : Write) : Type 0 where
    stood : (x : Row) → row_at rows w.cell ≡ Some x → f (w.cell, x) ≡ None
    put : (x : Row) → w.row ≡ Some x → f (w.cell, x) ≡ None

  all_unseen : (g : Tag) → Tells f g → (rows : List (Cell × Row)) (writes : List Write) → AllByRecursion (IsSilent g rows) writes → AllByRecursion (IsUnseen rows) writes
  all_unseen g tells rows [] silent = tt
  all_unseen g tells rows (w ∷ writes) silent = (
    record {
      stood = λ x is. tells w.cell (row_at rows w.cell) w.row silent.0 x (inl is);
      put = λ x is. tells w.cell (row_at rows w.cell) w.row silent.0 x (inr is);
    },
    all_unseen g tells rows writes silent.1,
  )

  -- so it is after another write too
  still_unseen : (rows : List (Cell × Row)) (w : Write) → InOrder rows → IsUnseen rows w → (writes : List Write) → AllByRecursion (IsUnseen rows) writes → AllByRecursion (IsUnseen (written rows w)) writes
  still_unseen rows w sorted one [] all = tt
  still_unseen rows w sorted one (u ∷ writes) all = (
    record {
      stood = λ x is. elim (same_or_not cell_cmp cell_cmp_total cell_cmp_exact u.cell w.cell) [
        | inl same ↦ subst (λ c. f (c, x) ≡ None) (sym same) (one.put x (sym (at_its_cell rows w.cell w.row sorted) ∙ sym (ap (row_at (written rows w)) same) ∙ is))
        | inr apart ↦ all.0.stood x (sym (elsewhere rows w.cell w.row u.cell sorted apart) ∙ is)
      ];
      put = all.0.put;
    },
    still_unseen rows w sorted one writes all.1,
  )

  gathered_by_one : (rows : List (Cell × Row)) (d : Cell) (r : Option Row) → ((x : Row) → row_at rows d ≡ Some x → f (d, x) ≡ None) → ((x : Row) → r ≡ Some x → f (d, x) ≡ None) → filter_map f (with_row_or_none rows d r) ≡ filter_map f rows
  gathered_by_one rows d None stood put = gathered_cut cell_cmp cell_cmp_total cell_cmp_exact f rows d stood
  gathered_by_one rows d (Some x) stood put = gathered_put cell_cmp cell_cmp_total cell_cmp_exact f rows d x (put x refl) stood

  gathered_by_all : (writes : List Write) (rows : List (Cell × Row)) → InOrder rows → AllByRecursion (IsUnseen rows) writes → filter_map f rows ≡ filter_map f (fold written rows writes)
  gathered_by_all [] rows sorted all = refl
  gathered_by_all (w ∷ writes) rows sorted all =
      sym (gathered_by_one rows w.cell w.row all.0.stood all.0.put)
      ∙ gathered_by_all writes (written rows w) (one_ordered rows w.cell w.row sorted) (still_unseen rows w sorted all.0 writes all.1)

  pub step_gathers_same : (state : State) (commit : Commit) → InOrder state.rows → (g : Tag) → Tells f g → count_of state.counts g ≡ count_of (step state commit).counts g → filter_map f state.rows ≡ filter_map f (step state commit).rows
  unfolding step
  step_gathers_same state commit sorted g tells same =
      gathered_by_all commit.writes state.rows sorted (all_unseen g tells state.rows commit.writes (silent_by state commit g same))
