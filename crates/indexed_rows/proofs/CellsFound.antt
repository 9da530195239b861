-- Rows in order have the row of each of their cells.
use Rattle.std.proofs.Common.{◌≡◌, ◌∙◌, List, [], ◌∷◌, ◌++◌, refl, sym, ap, subst, cond, append_assoc, append-nil}
use Rattle.std.specs.Prelude.{Option, Some, None, option_map}
use Rattle.std.specs.List.{AllByRecursion, filter_map, cons_option}
use Rattle.std.specs.List.Sorted.{IsStrictlySortedBy}
use Rattle.std.specs.Map.{keys_of}
use Rattle.std.specs.Cmp.{tied_itself}
use Rattle.std.specs.Ordering.{is_eq, ordering_reverse}
use Rattle.std.specs.declared.cmp.Ordering.TheVariants.{Less, Greater}
use Rattle.content_rows.proofs.CellLemmas.{cell_cmp_total}
use Rattle.content_rows.specs.CellOrder.{cell_cmp}
use Rattle.content_rows.specs.declared.cell.Cell.{Cell}
use Rattle.content_rows.specs.declared.row.Row.{Row}
use Rattle.indexed_rows.specs.Rows.{row_at, InOrder}

-- a cell with its row, where it has one
abbrev pub entry_at : List (Cell × Row) → Cell → Option (Cell × Row)
entry_at rows c = option_map (λ r. (c, r)) (row_at rows c)

abbrev pub entries_at : List (Cell × Row) → List Cell → List (Cell × Row)
entries_at rows cells = filter_map (entry_at rows) cells

above : (a b : Cell) → cell_cmp a b ≡ Less → cell_cmp b a ≡ Greater
above a b less = cell_cmp_total.antisymm b a ∙ ap ordering_reverse less

reach : (P : Cell → Type 0) (before : List (Cell × Row)) (e : Cell × Row) (rest : List (Cell × Row)) → AllByRecursion P (keys_of (before ++ e ∷ rest)) → P e.0
reach P [] e rest all = all.0
reach P (d ∷ before) e rest all = reach P before e rest all.1

pub row_within : (before : List (Cell × Row)) (e : Cell × Row) (rest : List (Cell × Row)) → InOrder (before ++ e ∷ rest) → row_at (before ++ e ∷ rest) e.0 ≡ Some e.1
unfolding IsStrictlySortedBy
row_within [] e rest sorted = ap (λ o. cond (is_eq o) (Some e.1) (row_at rest e.0)) (tied_itself cell_cmp_total e.0)
row_within (d ∷ before) e rest sorted =
    ap (λ o. cond (is_eq o) (Some d.1) (row_at (before ++ e ∷ rest) e.0)) (above d.0 e.0 (reach (λ k. cell_cmp d.0 k ≡ Less) before e rest sorted.0))
    ∙ row_within before e rest sorted.1

found_from : (before rest rows : List (Cell × Row)) → rows ≡ before ++ rest → InOrder rows → entries_at rows (keys_of rest) ≡ rest
found_from before [] rows split sorted = refl
found_from before (e ∷ rest) rows split sorted =
    let row : row_at rows e.0 ≡ Some e.1 = ap (λ l. row_at l e.0) split ∙ row_within before e rest (subst InOrder split sorted) in
    ap (λ o. cons_option (option_map (λ r. (e.0, r)) o) (entries_at rows (keys_of rest))) row
    ∙ ap (λ l. e ∷ l) (found_from (before ++ e ∷ []) rest rows (split ∙ sym (append_assoc before (e ∷ []) rest)) sorted)

-- the entries of all cells of some rows are these rows
pub all_found : (rows : List (Cell × Row)) → InOrder rows → entries_at rows (keys_of rows) ≡ rows
all_found rows sorted = found_from [] rows rows refl sorted

-- ---- a walk over cells

abbrev pub listed : Cell → Option Row → List (Cell × Row)
listed c None = []
listed c (Some r) = (c, r) ∷ []

pub one_more : (rows : List (Cell × Row)) (c : Cell) (o : Option Row) (now all : List (Cell × Row)) (left rest : List Cell)
    → o ≡ row_at rows c → left ≡ c ∷ rest → now ++ entries_at rows left ≡ all → (now ++ listed c o) ++ entries_at rows rest ≡ all
one_more rows c o now all left rest row is h =
    append_assoc now (listed c o) (entries_at rows rest)
    ∙ ap (λ l. now ++ l) (first o ∙ ap (λ q. cons_option (option_map (λ r. (c, r)) q) (entries_at rows rest)) row ∙ sym (ap (entries_at rows) is))
    ∙ h
  where
    first : (q : Option Row) → listed c q ++ entries_at rows rest ≡ cons_option (option_map (λ r. (c, r)) q) (entries_at rows rest)
    first None = refl
    first (Some r) = refl

pub all_walked : (rows now : List (Cell × Row)) (cells left : List Cell) → InOrder rows → cells ≡ keys_of rows → left ≡ [] → now ++ entries_at rows left ≡ entries_at rows cells → now ≡ rows
all_walked rows now cells left sorted is none h =
    sym (append-nil now) ∙ ap (λ l. now ++ entries_at rows l) (sym none) ∙ h ∙ ap (entries_at rows) is ∙ all_found rows sorted
