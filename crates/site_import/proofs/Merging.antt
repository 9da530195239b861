-- An edit of the rows that a file changes sets all of its rows.
use Rattle.std.proofs.Common.{◌≡◌, List, [], ◌∷◌, Bool, true, false, cond, refl, sym, ap, subst, ◌∙◌, fold, map, filter, All}
use Rattle.std.proofs.lemmas.List.Elements.{All-head, All-tail}
use Rattle.std.proofs.lemmas.Map.Keys.{IsDistinct-from_sorted}
use Rattle.std.specs.List.{AllByRecursion, IsDistinct}
use Rattle.std.specs.List.Sorted.{IsStrictlySortedBy}
use Rattle.std.specs.Map.{keys_of}
use Rattle.std.specs.Ordering.{eq_by_cmp}
use Rattle.std.specs.declared.cmp.Ordering.TheVariants.{Less}
use Rattle.content_rows.proofs.CellLemmas.{cell_cmp_exact, cell_cmp_total}
use Rattle.content_rows.specs.CellOrder.{cell_cmp}
use Rattle.content_rows.specs.ValidRow.{IsValidRow}
use Rattle.content_rows.specs.declared.cell.Cell.{Cell}
use Rattle.content_rows.specs.declared.row.Row.{Row}
use Rattle.indexed_rows.specs.Write.{written}
use Rattle.indexed_rows.specs.Rows.{row_at, AreValidRows, InOrder}
use Rattle.state_commits.proofs.Entries.{below_apart, found_put_other, ordered_put}
use Rattle.site_files.proofs.RowLaws.{stays_valid}
use Rattle.site_import.specs.Changes.{is_change, with_entry, merged, write_of, writes_of, KeepsUnchanged}
use Rattle.site_import.proofs.Order.{tail_ordered, put_again}

abbrev Stored : Type 0
Stored = List (Cell × Row)

-- the rows so far have what the first ones had in the cells that are to come
abbrev Agree : Stored → Stored → Stored → Type 0
Agree first now file = AllByRecursion (λ c. row_at now c ≡ row_at first c) (keys_of file)

agree_itself : (rows file : Stored) → Agree rows rows file
agree_itself rows [] = tt
agree_itself rows (e ∷ file) = (refl, agree_itself rows file)

still_agree : (first now : Stored) (e : Cell × Row) (file : Stored) → AllByRecursion (λ k. cell_cmp e.0 k ≡ Less) (keys_of file) → Agree first now file → Agree first (with_entry now e) file
still_agree first now e [] above agree = tt
still_agree first now e (d ∷ file) above agree = (
  found_put_other cell_cmp cell_cmp_total cell_cmp_exact now e.0 e.1 d.0 (below_apart cell_cmp cell_cmp_total cell_cmp_exact e.0 d.0 above.0) ∙ agree.0,
  still_agree first now e file above.1 agree.1,
)

above_first : (e : Cell × Row) (file : Stored) → InOrder (e ∷ file) → AllByRecursion (λ k. cell_cmp e.0 k ≡ Less) (keys_of file)
unfolding IsStrictlySortedBy
above_first e file sorted = sorted.0

one_more_by : (b : Bool) (first now : Stored) (e : Cell × Row) (file : Stored) → is_change first e ≡ b → InOrder now → row_at now e.0 ≡ row_at first e.0 → KeepsUnchanged first e
    → fold written (with_entry now e) (map write_of (filter (is_change first) file)) ≡ fold with_entry (with_entry now e) file
    → fold written now (map write_of (cond b (e ∷ filter (is_change first) file) (filter (is_change first) file))) ≡ fold with_entry (with_entry now e) file
one_more_by true first now e file is sorted agree keeps rest = rest
one_more_by false first now e file is sorted agree keeps rest =
    ap (λ rows. fold written rows (map write_of (filter (is_change first) file))) (sym (put_again now e.0 e.1 sorted (agree ∙ keeps is))) ∙ rest

sets_all : (first now file : Stored) → InOrder now → InOrder file → Agree first now file → All (KeepsUnchanged first) file
    → fold written now (map write_of (filter (is_change first) file)) ≡ fold with_entry now file
sets_all first now [] sorted in_order agree keeps = refl
sets_all first now (e ∷ file) sorted in_order agree keeps =
    one_more_by (is_change first e) first now e file refl sorted agree.0 (All-head (KeepsUnchanged first) e file keeps)
    (sets_all first (with_entry now e) file (ordered_put cell_cmp cell_cmp_total cell_cmp_exact now e.0 e.1 sorted) (tail_ordered e file in_order) (still_agree first now e file (above_first e file in_order) agree.1) (All-tail (KeepsUnchanged first) e file keeps))

-- the rows after the edit are those with each row of the file in its cell
pub edit_merges : (base file : Stored) → InOrder base → InOrder file → All (KeepsUnchanged base) file → fold written base (writes_of base file) ≡ merged base file
edit_merges base file sorted in_order keeps = sets_all base base file sorted in_order (agree_itself base file) keeps

-- right rows with right rows are right
pub merged_valid : (base file : Stored) → AreValidRows base → AreValidRows file → AreValidRows (merged base file)
merged_valid base [] valid all = valid
merged_valid base (e ∷ file) valid all =
    merged_valid (with_entry base e) file (stays_valid base e.0 e.1 (All-head (λ (d : Cell × Row). IsValidRow d.0 d.1) e file all) valid) (All-tail (λ (d : Cell × Row). IsValidRow d.0 d.1) e file all)

-- ---- its cells are distinct

abbrev Above : Cell → Stored → Type 0
Above c file = AllByRecursion (λ k. cell_cmp c k ≡ Less) (keys_of file)

above_kept_by : (b : Bool) (c : Cell) (e : Cell × Row) (kept : Stored) → cell_cmp c e.0 ≡ Less → Above c kept → Above c (cond b (e ∷ kept) kept)
above_kept_by true c e kept less all = (less, all)
above_kept_by false c e kept less all = all

above_kept : (p : Cell × Row → Bool) (c : Cell) (file : Stored) → Above c file → Above c (filter p file)
above_kept p c [] all = tt
above_kept p c (e ∷ file) all = above_kept_by (p e) c e (filter p file) all.0 (above_kept p c file all.1)

kept_by : (b : Bool) (e : Cell × Row) (kept : Stored) → Above e.0 kept → InOrder kept → InOrder (cond b (e ∷ kept) kept)
unfolding IsStrictlySortedBy
kept_by true e kept above sorted = (above, sorted)
kept_by false e kept above sorted = sorted

kept_ordered : (p : Cell × Row → Bool) (file : Stored) → InOrder file → InOrder (filter p file)
kept_ordered p [] sorted = sorted
kept_ordered p (e ∷ file) sorted =
    kept_by (p e) e (filter p file) (above_kept p e.0 file (above_first e file sorted)) (kept_ordered p file (tail_ordered e file sorted))

cells_of_writes : (file : Stored) → map (λ w. w.cell) (map write_of file) ≡ keys_of file
cells_of_writes [] = refl
cells_of_writes (e ∷ file) = ap (λ l. e.0 ∷ l) (cells_of_writes file)

pub distinct_cells : (base file : Stored) → InOrder file → IsDistinct (eq_by_cmp cell_cmp) (map (λ w. w.cell) (writes_of base file))
distinct_cells base file sorted =
    subst (IsDistinct (eq_by_cmp cell_cmp)) (sym (cells_of_writes (filter (is_change base) file)))
    (IsDistinct-from_sorted cell_cmp (keys_of (filter (is_change base) file)) (kept_ordered (is_change base) file sorted))
