-- Right rows with a right row are right.
use Rattle.std.proofs.Common.{◌≡◌, List, [], ◌∷◌, Ordering, Less, Equal, Greater, refl, subst}
use Rattle.std.specs.Prelude.{All}
use Rattle.std.specs.BTreeMap.{insert_entry}
use Rattle.std.specs.Ordering.{match_ordering}
use Rattle.std.proofs.lemmas.List.Elements.{All-head, All-tail, All-cons, All-nil}
use Rattle.content_rows.proofs.CellLemmas.{cell_cmp_exact}
use Rattle.content_rows.specs.CellOrder.{cell_cmp}
use Rattle.content_rows.specs.ValidRow.{IsValidRow}
use Rattle.content_rows.specs.declared.cell.Cell.{Cell}
use Rattle.content_rows.specs.declared.row.Row.{Row}
use Rattle.indexed_rows.specs.Rows.{with_row, AreValidRows}

abbrev IsRight : Cell × Row → Type 0
IsRight e = IsValidRow e.0 e.1

placed : (o : Ordering) (c : Cell) (r : Row) (e : Cell × Row) (es : List (Cell × Row)) → cell_cmp c e.0 ≡ o → IsValidRow c r → IsRight e → All IsRight es → All IsRight (insert_entry cell_cmp es c r)
    → All IsRight (match_ordering o ((c, r) ∷ e ∷ es) ((e.0, r) ∷ es) (e ∷ insert_entry cell_cmp es c r))
placed Less c r e es is right first others more = All-cons IsRight (c, r) (e ∷ es) right (All-cons IsRight e es first others)
placed Equal c r e es is right first others more =
    All-cons IsRight (e.0, r) es (subst (λ (k : Cell). IsValidRow k r) (cell_cmp_exact c e.0 is) right) others
placed Greater c r e es is right first others more = All-cons IsRight e (insert_entry cell_cmp es c r) first more

inserted : (rows : List (Cell × Row)) (c : Cell) (r : Row) → IsValidRow c r → All IsRight rows → All IsRight (insert_entry cell_cmp rows c r)
inserted [] c r right all = All-cons IsRight (c, r) [] right (All-nil IsRight)
inserted (e ∷ es) c r right all =
    placed (cell_cmp c e.0) c r e es refl right (All-head IsRight e es all) (All-tail IsRight e es all) (inserted es c r right (All-tail IsRight e es all))

pub stays_right : (rows : List (Cell × Row)) (c : Cell) (r : Row) → IsValidRow c r → AreValidRows rows → AreValidRows (with_row rows c r)
stays_right rows c r right all = inserted rows c r right all

pub no_rows : AreValidRows []
no_rows = All-nil IsRight
