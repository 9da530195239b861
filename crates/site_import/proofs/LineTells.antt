-- What the line of a row says.
use Rattle.std.proofs.Common.{◌≡◌, ℕ, List, [], ◌∷◌, Bool, true, false, not, cond, Some, None, Ok, Err, Result, IsUtf8, refl, sym, ap, subst, ◌∙◌}
use Rattle.std.proofs.lemmas.Slice.Eq.{bytes_eq-Decides}
use Rattle.std.proofs.lemmas.List.Elements.{All-head, All-tail}
use Rattle.std.specs.Ordering.{is_eq}
use Rattle.std.specs.Str.{bytes_eq}
use Rattle.std.specs.declared.cmp.Ordering.{Ordering}
use Rattle.std.specs.declared.cmp.Ordering.TheVariants.{Less, Equal, Greater}
use Rattle.serde_json.specs.Data.{Data}
use Rattle.serde_json.specs.Read.{read}
use Rattle.content_rows.proofs.CellLemmas.{cell_cmp_exact}
use Rattle.content_rows.specs.CellOrder.{cell_cmp}
use Rattle.content_rows.specs.ValidRow.{IsValidRow}
use Rattle.content_rows.specs.declared.cell.Cell.{Cell}
use Rattle.content_rows.specs.declared.row.Row.{Row}
use Rattle.indexed_rows.specs.Rows.{row_at, AreValidRows}
use Rattle.json_keys.specs.declared.checked.Checked.TheVariants as checked
use Rattle.row_json.specs.Reading.{reading, written}
use Rattle.site_files.specs.Rows.{row_or_fault, row_told, value_of}
use Rattle.site_files.specs.declared.fault.LineFault.{LineFault}
use Rattle.site_files.proofs.RowLaws.{a_value}
use Rattle.site_import.specs.Changes.{is_other, KeepsUnchanged}
use Rattle.site_import.specs.Lines.{line, TellsItsRow}

pub tells_row : (c : Cell) (r : Row) (text : List ℕ) (d : Data) → d ≡ written c r → text ≡ line c r → IsUtf8 text → read text ≡ Some d → reading d ≡ checked.Right (c, r) → TellsItsRow c r
tells_row c r text d is written-so utf8 read-so right =
    ap (λ l. row_told (value_of l)) (sym written-so) ∙ ap row_told (sym (a_value text d utf8 read-so) ∙ ap Some is) ∙ ap row_or_fault (sym (ap reading is) ∙ right)

-- the row of a result, or another
abbrev row_or : Row → Result (Cell × Row) LineFault → Row
row_or other (Ok e) = e.1
row_or other (Err f) = other

pub lines_tell_rows : (c : Cell) (r s : Row) → TellsItsRow c r → TellsItsRow c s → line c r ≡ line c s → r ≡ s
lines_tell_rows c r s first second same =
    ap (row_or r) (sym first ∙ ap (λ l. row_told (value_of l)) same ∙ second)

pub same_rows : (c : Cell) (r s : Row) → TellsItsRow c r → TellsItsRow c s → bytes_eq (line c r) (line c s) ≡ true → r ≡ s
same_rows c r s first second same = lines_tell_rows c r s first second ((bytes_eq-Decides (line c r) (line c s)).0 same)

-- ---- a row that changes nothing

abbrev IsRight : Cell × Row → Type 0
IsRight e = IsValidRow e.0 e.1

some_is : (r s : Row) → Some r ≡ Some s → r ≡ s
some_is r s h = cc

right_by : (o : Ordering) (e : Cell × Row) (es : List (Cell × Row)) (c : Cell) (r : Row) → cell_cmp c e.0 ≡ o → IsRight e → (row_at es c ≡ Some r → IsValidRow c r) → cond (is_eq o) (Some e.1) (row_at es c) ≡ Some r → IsValidRow c r
right_by Less e es c r is right others found = others found
right_by Equal e es c r is right others found =
    subst (λ (k : Cell). IsValidRow k r) (sym (cell_cmp_exact c e.0 is)) (subst (λ (s : Row). IsValidRow e.0 s) (some_is e.1 r found) right)
right_by Greater e es c r is right others found = others found

-- a row that is found among right rows is right
right_at : (rows : List (Cell × Row)) (c : Cell) (r : Row) → AreValidRows rows → row_at rows c ≡ Some r → IsValidRow c r
right_at [] c r valid found = absurd (let none : None ≡ Some r = found in cc)
right_at (e ∷ es) c r valid found =
    right_by (cell_cmp c e.0) e es c r refl (All-head IsRight e es valid) (right_at es c r (All-tail IsRight e es valid)) found

not_not : (b : Bool) → not b ≡ false → b ≡ true
not_not true h = refl
not_not false h = cc

pub keeps_unchanged : (base : List (Cell × Row)) (c : Cell) (old new : Row) (same : Bool) → Some old ≡ row_at base c → same ≡ bytes_eq (line c old) (line c new)
    → (same ≡ true → IsValidRow c old → IsValidRow c new → old ≡ new) → AreValidRows base → IsValidRow c new → KeepsUnchanged base (c, new)
keeps_unchanged base c old new same found lines rows valid right = λ unchanged.
    let alike : same ≡ true = lines ∙ not_not (bytes_eq (line c old) (line c new)) (ap (is_other c new) found ∙ unchanged) in
    sym found ∙ ap Some (rows alike (right_at base c old valid (sym found)) right)
