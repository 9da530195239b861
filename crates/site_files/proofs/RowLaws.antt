-- One row more, and what a line says.
use Rattle.std.proofs.Common.{◌≡◌, ℕ, List, [], ◌∷◌, Bool, true, false, Some, None, Ordering, Less, Equal, Greater, refl, sym, subst}
use Rattle.std.specs.Prelude.{if◌then◌else◌, All}
use Rattle.std.specs.BTreeMap.{insert_entry}
use Rattle.std.specs.Ordering.{match_ordering}
use Rattle.std.specs.Str.{is_utf8, IsUtf8}
use Rattle.std.proofs.lemmas.List.Elements.{All-head, All-tail, All-cons, All-nil}
use Rattle.std.proofs.lemmas.Str.{is_utf8-from_IsUtf8, IsUtf8-from_is_utf8}
use Rattle.serde_json.specs.Data.{Data}
use Rattle.serde_json.specs.Read.{read}
use Rattle.content_rows.proofs.CellLemmas.{cell_cmp_exact}
use Rattle.content_rows.specs.CellOrder.{cell_cmp}
use Rattle.content_rows.specs.ValidRow.{IsValidRow}
use Rattle.content_rows.specs.declared.cell.Cell.{Cell}
use Rattle.content_rows.specs.declared.row.Row.{Row}
use Rattle.indexed_rows.specs.Rows.{with_row, AreValidRows}
use Rattle.site_files.specs.Rows.{value_of}

abbrev IsRight : Cell × Row → Type 0
IsRight e = IsValidRow e.0 e.1

placed : (o : Ordering) (c : Cell) (r : Row) (e : Cell × Row) (es : List (Cell × Row)) → cell_cmp c e.0 ≡ o → IsValidRow c r → IsRight e → All IsRight es → All IsRight (insert_entry cell_cmp es c r)
    → All IsRight (match_ordering o ((c, r) ∷ e ∷ es) ((e.0, r) ∷ es) (e ∷ insert_entry cell_cmp es c r))
placed Less c r e es is right first others more = All-cons IsRight (c, r) (e ∷ es) right (All-cons IsRight e es first others)
placed Equal c r e es is right first others more =
    All-cons IsRight (e.0, r) es (subst (λ (k : Cell). IsValidRow k r) (cell_cmp_exact c e.0 is) right) others
placed Greater c r e es is right first others more = All-cons IsRight e (insert_entry cell_cmp es c r) first more

inserted : (rows : List (Cell × Row)) (c : Cell) (r : Row) → IsValidRow c r → All IsRight rows → All IsRight (insert_entry cell_cmp rows c r)
inserted [] c r right all = All-cons IsRight (c, r) [] right (All-nil IsRight)
inserted (e ∷ es) c r right all =
    placed (cell_cmp c e.0) c r e es refl right (All-head IsRight e es all) (All-tail IsRight e es all) (inserted es c r right (All-tail IsRight e es all))

-- right rows with a right row are right
pub stays_valid : (rows : List (Cell × Row)) (c : Cell) (r : Row) → IsValidRow c r → AreValidRows rows → AreValidRows (with_row rows c r)
stays_valid rows c r right all = inserted rows c r right all

pub no_rows : AreValidRows []
no_rows = All-nil IsRight

-- ---- the value of a line

pub a_value : (line : List ℕ) (d : Data) → IsUtf8 line → read line ≡ Some d → Some d ≡ value_of line
a_value line d utf8 is = rw (is_utf8-from_IsUtf8 line utf8) (sym is)

none_at : (b : Bool) (line : List ℕ) → is_utf8 line ≡ b → (IsUtf8 line → read line ≡ None) → None ≡ (if b then read line else None)
none_at true line is h = sym (h (IsUtf8-from_is_utf8 line is))
none_at false line is h = refl

pub no_value : (line : List ℕ) → (IsUtf8 line → read line ≡ None) → None ≡ value_of line
no_value line h = none_at (is_utf8 line) line refl h
