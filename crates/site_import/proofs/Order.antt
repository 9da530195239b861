-- Rows in the order of their cells, one after the other.
use Rattle.std.proofs.Common.{◌≡◌, List, [], ◌∷◌, ◌++◌, cond, Some, None, refl, sym, ap, ◌∙◌}
use Rattle.std.specs.Cmp.{tied_itself}
use Rattle.std.specs.List.{AllByRecursion}
use Rattle.std.specs.List.Sorted.{IsStrictlySortedBy}
use Rattle.std.specs.Map.{keys_of}
use Rattle.std.specs.Ordering.{is_eq, match_ordering, ordering_reverse}
use Rattle.std.specs.declared.cmp.Ordering.{Ordering}
use Rattle.std.specs.declared.cmp.Ordering.TheVariants.{Less, Equal, Greater}
use Rattle.content_rows.proofs.CellLemmas.{cell_cmp_total}
use Rattle.content_rows.specs.CellOrder.{cell_cmp}
use Rattle.content_rows.specs.declared.cell.Cell.{Cell}
use Rattle.content_rows.specs.declared.row.Row.{Row}
use Rattle.indexed_rows.specs.Rows.{row_at, with_row, InOrder}

abbrev Stored : Type 0
Stored = List (Cell × Row)

-- above a cell that is below it
above : (a b : Cell) → cell_cmp a b ≡ Less → cell_cmp b a ≡ Greater
above a b less = cell_cmp_total.antisymm b a ∙ ap ordering_reverse less

-- what holds of all holds of one in the midst
reach : (P : Cell → Type 0) (before : Stored) (e : Cell × Row) (rest : Stored) → AllByRecursion P (keys_of (before ++ e ∷ rest)) → P e.0
reach P [] e rest all = all.0
reach P (d ∷ before) e rest all = reach P before e rest all.1

pub tail_ordered : (e : Cell × Row) (es : Stored) → InOrder (e ∷ es) → InOrder es
unfolding IsStrictlySortedBy
tail_ordered e es sorted = sorted.1

-- it has the row of each of its cells
pub row_within : (before : Stored) (e : Cell × Row) (rest : Stored) → InOrder (before ++ e ∷ rest) → row_at (before ++ e ∷ rest) e.0 ≡ Some e.1
unfolding IsStrictlySortedBy
row_within [] e rest sorted = ap (λ o. cond (is_eq o) (Some e.1) (row_at rest e.0)) (tied_itself cell_cmp_total e.0)
row_within (d ∷ before) e rest sorted =
    ap (λ o. cond (is_eq o) (Some d.1) (row_at (before ++ e ∷ rest) e.0)) (above d.0 e.0 (reach (λ k. cell_cmp d.0 k ≡ Less) before e rest sorted.0))
    ∙ row_within before e rest sorted.1

-- before one it has no row of its cell, and it is put there at the end
pub no_row_yet : (before : Stored) (e : Cell × Row) (rest : Stored) → InOrder (before ++ e ∷ rest) → row_at before e.0 ≡ None
unfolding IsStrictlySortedBy
no_row_yet [] e rest sorted = refl
no_row_yet (d ∷ before) e rest sorted =
    ap (λ o. cond (is_eq o) (Some d.1) (row_at before e.0)) (above d.0 e.0 (reach (λ k. cell_cmp d.0 k ≡ Less) before e rest sorted.0))
    ∙ no_row_yet before e rest sorted.1

pub put_last : (before : Stored) (e : Cell × Row) (rest : Stored) → InOrder (before ++ e ∷ rest) → with_row before e.0 e.1 ≡ before ++ e ∷ []
unfolding IsStrictlySortedBy
put_last [] e rest sorted = refl
put_last (d ∷ before) e rest sorted =
    ap (λ o. match_ordering o (e ∷ d ∷ before) ((d.0, e.1) ∷ before) (d ∷ with_row before e.0 e.1)) (above d.0 e.0 (reach (λ k. cell_cmp d.0 k ≡ Less) before e rest sorted.0))
    ∙ ap (λ l. d ∷ l) (put_last before e rest sorted.1)

-- ---- a row that is set again

-- a cell below all has no row
below_all : (c : Cell) (es : Stored) → AllByRecursion (λ k. cell_cmp c k ≡ Less) (keys_of es) → row_at es c ≡ None
below_all c [] all = refl
below_all c (e ∷ es) all = ap (λ o. cond (is_eq o) (Some e.1) (row_at es c)) all.0 ∙ below_all c es all.1

lower : (c d : Cell) → cell_cmp c d ≡ Less → (es : Stored) → AllByRecursion (λ k. cell_cmp d k ≡ Less) (keys_of es) → AllByRecursion (λ k. cell_cmp c k ≡ Less) (keys_of es)
lower c d less [] all = tt
lower c d less (e ∷ es) all = (cell_cmp_total.trans c d e.0 less all.0, lower c d less es all.1)

some_is : {X : Type 0} (x y : X) → Some x ≡ Some y → x ≡ y
some_is x y h = cc

again_at : (o : Ordering) (c : Cell) (r : Row) (e : Cell × Row) (es : Stored) → cell_cmp c e.0 ≡ o → (InOrder es → row_at es c ≡ Some r → with_row es c r ≡ es) → InOrder (e ∷ es)
    → cond (is_eq o) (Some e.1) (row_at es c) ≡ Some r → match_ordering o ((c, r) ∷ e ∷ es) ((e.0, r) ∷ es) (e ∷ with_row es c r) ≡ e ∷ es
unfolding IsStrictlySortedBy
again_at Less c r e es is others sorted found =
    let none = below_all c es (lower c e.0 is es sorted.0) in
    let absent : None ≡ Some r = sym none ∙ found in
    absurd cc
again_at Equal c r e es is others sorted found = ap (λ x. (e.0, x) ∷ es) (sym (some_is e.1 r found))
again_at Greater c r e es is others sorted found = ap (λ l. e ∷ l) (others sorted.1 found)

-- where it stands already, the rows stay as they are
pub put_again : (es : Stored) (c : Cell) (r : Row) → InOrder es → row_at es c ≡ Some r → with_row es c r ≡ es
put_again [] c r sorted found = absurd (let absent : None ≡ Some r = found in cc)
put_again (e ∷ es) c r sorted found = again_at (cell_cmp c e.0) c r e es refl (put_again es c r) sorted found
