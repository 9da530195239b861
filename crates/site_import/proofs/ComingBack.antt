-- What is read of a file that was written of rows, and what an import of it changes.
use Rattle.std.proofs.Common.{◌≡◌, ◌≤◌, ◌+◌, ◌==◌, ℕ, List, [], ◌∷◌, ◌++◌, length, Bool, true, false, not, cond, Option, Result, Ok, Err, refl, sym, ap, subst, ◌∙◌, arith, codes, map, filter, All, is_some, append_assoc, append-nil}
use Rattle.std.proofs.lemmas.Bool.{and_parts, le-ltb}
use Rattle.std.proofs.lemmas.List.Elements.{All-head, All-tail}
use Rattle.std.proofs.lemmas.Slice.Eq.{bytes_eq-Decides}
use Rattle.std.specs.Str.{bytes_eq}
use Rattle.content_rows.specs.declared.cell.Cell.{Cell}
use Rattle.content_rows.specs.declared.row.Row.{Row}
use Rattle.row_json.specs.Reading.{written}
use Rattle.indexed_rows.specs.Rows.{with_row, InOrder}
use Rattle.json_keys.specs.declared.rule.Rule.TheVariants as rule
use Rattle.site_files.specs.Lines.{lines, lines_from, is_one_line, longest}
use Rattle.site_files.specs.Rows.{row_of_line, row_told, value_of, with_one_more, with_line, go_on, rows_from}
use Rattle.site_files.specs.declared.fault.LineFault.{LineFault}
use Rattle.site_files.specs.declared.fault.LineFault.TheVariants as fault
use Rattle.site_import.specs.Changes.{is_other, is_change, write_of, edit_of}
use Rattle.site_import.specs.Export.{ExportsComeBack, ExportsChangeNothing}
use Rattle.site_import.specs.Lines.{line, export_text, TellsItsRow, AllTellTheirRow}
use Rattle.site_import.proofs.LineEnds.{text_inside}
use Rattle.site_import.proofs.Order.{row_within, no_row_yet, put_last}

abbrev Stored : Type 0
Stored = List (Cell × Row)

abbrev line_at : Cell × Row → List ℕ
line_at e = line e.0 e.1

-- ---- the lines of the file

not_false : (b : Bool) → not b ≡ true → b ≡ false
not_false true h = cc
not_false false h = refl

through : (begun text rest : List ℕ) → is_one_line text ≡ true → lines_from begun (text ++ rest) ≡ lines_from (begun ++ text) rest
through begun [] rest h = ap (λ s. lines_from s rest) (sym (append-nil begun))
through begun (b ∷ text) rest h =
    let both = and_parts (not (b == 10)) (is_one_line text) h in
    ap (λ t. cond t (begun ∷ lines_from [] (text ++ rest)) (lines_from (begun ++ b ∷ []) (text ++ rest))) (not_false (b == 10) both.0)
    ∙ through (begun ++ b ∷ []) text rest both.1 ∙ ap (λ s. lines_from s rest) (append_assoc begun (b ∷ []) text)

exported_lines : (rows : Stored) → lines (export_text rows) ≡ map line_at rows
exported_lines [] = refl
exported_lines (e ∷ rows) =
    ap (lines_from []) (append_assoc (line_at e) (10 ∷ []) (export_text rows)) ∙ through [] (line_at e) (10 ∷ export_text rows) (text_inside (written e.0 e.1))
    ∙ ap (λ ls. line_at e ∷ ls) (exported_lines rows)

-- ---- the rows of the lines

own_row : (e : Cell × Row) → length (line_at e) ≤ longest → TellsItsRow e.0 e.1 → row_of_line (line_at e) ≡ Ok e
own_row e short tells =
    ap (λ b. cond b (Err (fault.Rule (codes "-") rule.Length)) (row_told (value_of (line_at e)))) (le-ltb longest (length (line_at e)) short) ∙ tells

abbrev added : Stored → Cell × Row → Option Row → Result Stored LineFault
added before e o = cond (is_some o) (Err (fault.Rule (codes "cell") rule.Twice)) (Ok (with_row before e.0 e.1))

one_more : (n : ℕ) (before : Stored) (e : Cell × Row) (rest : Stored) → n ≤ 100000 → InOrder (before ++ e ∷ rest) → length (line_at e) ≤ longest → TellsItsRow e.0 e.1
    → with_line n before (line_at e) ≡ Ok (before ++ e ∷ [])
one_more n before e rest few sorted short tells =
    ap (λ b. cond b (Err (fault.Rule (codes "-") rule.Many)) (with_one_more before (row_of_line (line_at e)))) (le-ltb 100000 n few) ∙ ap (with_one_more before) (own_row e short tells)
    ∙ ap (added before e) (no_row_yet before e rest sorted) ∙ ap Ok (put_last before e rest sorted)

read_on : (n : ℕ) (before rest : Stored) → n + length rest ≤ 100001 → InOrder (before ++ rest) → AllTellTheirRow rest → All (λ e. length (line e.0 e.1) ≤ longest) rest
    → rows_from n before (map line_at rest) ≡ Ok (before ++ rest)
read_on n before [] few sorted tell short = ap Ok (sym (append-nil before))
read_on n before (e ∷ rest) few sorted tell short =
    ap (λ r. go_on n r (λ longer. rows_from (n + 1) longer (map line_at rest)))
    (one_more n before e rest (omega (arith, few)) sorted (All-head (λ (d : Cell × Row). length (line d.0 d.1) ≤ longest) e rest short) (All-head (λ (d : Cell × Row). TellsItsRow d.0 d.1) e rest tell))
    ∙ read_on (n + 1) (before ++ e ∷ []) rest (omega (arith, few)) (subst InOrder (sym (append_assoc before (e ∷ []) rest)) sorted) (All-tail (λ (d : Cell × Row). TellsItsRow d.0 d.1) e rest tell) (All-tail (λ (d : Cell × Row). length (line d.0 d.1) ≤ longest) e rest short)
    ∙ ap Ok (append_assoc before (e ∷ []) rest)

pub comes_back : ExportsComeBack
comes_back rows sorted tell fit = ap (rows_from 1 []) (exported_lines rows) ∙ read_on 1 [] rows (omega (arith, fit.few)) sorted tell fit.short

-- ---- what an import of them changes

same_line : (l : List ℕ) → not (bytes_eq l l) ≡ false
same_line l = ap not ((bytes_eq-Decides l l).1 refl)

no_change : (before : Stored) (e : Cell × Row) (rest : Stored) → InOrder (before ++ e ∷ rest) → is_change (before ++ e ∷ rest) e ≡ false
no_change before e rest sorted = ap (is_other e.0 e.1) (row_within before e rest sorted) ∙ same_line (line_at e)

abbrev changes : Stored → Stored → Stored
changes base file = filter (is_change base) file

no_changes : (whole before rest : Stored) → whole ≡ before ++ rest → InOrder whole → changes whole rest ≡ []
no_changes whole before [] is sorted = refl
no_changes whole before (e ∷ rest) is sorted =
    ap (λ b. cond b (e ∷ changes whole rest) (changes whole rest)) (ap (λ w. is_change w e) is ∙ no_change before e rest (subst InOrder is sorted))
    ∙ no_changes whole (before ++ e ∷ []) rest (is ∙ sym (append_assoc before (e ∷ []) rest)) sorted

pub changes_nothing : ExportsChangeNothing
changes_nothing rows sorted = ap (λ es. edit_of (map write_of es)) (no_changes rows [] rows refl sorted)
