-- The rows of a file: one row a line.
use Rattle.std.specs.Prelude.{ℕ, List, [], ◌∷◌, ◌+◌, ◌≡◌, length, Option, None, Some, is_some, Result, Ok, Err, nat_lt, if◌then◌else◌, codes}
use Rattle.std.specs.Str.{is_utf8}
use Rattle.serde_json.specs.Data.{Data, object}
use Rattle.serde_json.specs.Read.{read}
use Rattle.content_rows.specs.declared.cell.Cell.{Cell}
use Rattle.content_rows.specs.declared.row.Row.{Row}
use Rattle.indexed_rows.specs.Rows.{row_at, with_row}
use Rattle.content_state.specs.SiteRules.{IsNoSite}
use Rattle.json_keys.specs.declared.checked.Checked.{Checked}
use Rattle.json_keys.specs.declared.checked.Checked.TheVariants as checked
use Rattle.json_keys.specs.declared.rule.Rule.TheVariants as rule
use Rattle.row_json.specs.Reading.{reading}
use Rattle.site_files.specs.Lines.{lines, longest}
use Rattle.site_files.specs.declared.fault.LineFault.{LineFault}
use Rattle.site_files.specs.declared.fault.LineFault.TheVariants as fault
use Rattle.site_files.specs.declared.fault.ReadFault.{ReadFault}
use Rattle.site_files.specs.declared.fault.ReadFault.TheVariants as why

-- ---- one line

-- the value of JSON that a line is (RFC 8259)
abbrev pub value_of : List ℕ → Option Data
value_of line = if is_utf8 line then read line else None

abbrev pub row_or_fault : Checked (Cell × Row) → Result (Cell × Row) LineFault
row_or_fault (checked.Right r) = Ok r
row_or_fault (checked.Broken f broken) = Err (fault.Rule f broken)

-- a value is to be an object
abbrev pub row_told : Option Data → Result (Cell × Row) LineFault
row_told None = Err fault.BadJson
row_told (Some (object ms)) = row_or_fault (reading (object ms))
row_told (Some _) = Err fault.BadJson

-- the row that a line is, or what is wrong with it: first its length
abbrev pub row_of_line : List ℕ → Result (Cell × Row) LineFault
row_of_line line = if nat_lt longest (length line) then Err (fault.Rule (codes "-") rule.Length) else row_told (value_of line)

-- ---- all lines

-- the rows with one more, whose cell isn't among theirs
abbrev pub with_one_more : List (Cell × Row) → Result (Cell × Row) LineFault → Result (List (Cell × Row)) LineFault
with_one_more rows (Err f) = Err f
with_one_more rows (Ok r) = if is_some (row_at rows r.0) then Err (fault.Rule (codes "cell") rule.Twice) else Ok (with_row rows r.0 r.1)

-- at most so many lines are a file
abbrev pub most_lines : ℕ
most_lines = 100000

-- the rows with that of a line, by its number
abbrev pub with_line : ℕ → List (Cell × Row) → List ℕ → Result (List (Cell × Row)) LineFault
with_line n rows line = if nat_lt most_lines n then Err (fault.Rule (codes "-") rule.Many) else with_one_more rows (row_of_line line)

-- the fault of a line, with its number, or what follows
abbrev pub go_on : ℕ → Result (List (Cell × Row)) LineFault → (List (Cell × Row) → Result (List (Cell × Row)) (ℕ × LineFault)) → Result (List (Cell × Row)) (ℕ × LineFault)
go_on n (Ok rows) next = next rows
go_on n (Err f) next = Err (n, f)

-- the rows with those of some lines, the first of which has that number, or the first line that is no row
abbrev pub rows_from : ℕ → List (Cell × Row) → List (List ℕ) → Result (List (Cell × Row)) (ℕ × LineFault)
rows_from n rows [] = Ok rows
rows_from n rows (line ∷ more) = go_on n (with_line n rows line) (λ longer. rows_from (n + 1) longer more)

-- the rows of a file in the order of their cells, or the first line that is no row
abbrev pub rows_of : List ℕ → Result (List (Cell × Row)) (ℕ × LineFault)
rows_of bytes = rows_from 1 [] (lines bytes)

-- ---- of a source that tells its bytes

abbrev pub IsToldBy : Option (List ℕ) → (List ℕ → Type 0) → Type 0
IsToldBy None P = Unit {0}
IsToldBy (Some bytes) P = P bytes

-- the fault is that of the line with that number, or want of memory
abbrev pub IsLineFault : {X : Type 0} → ℕ → Result X LineFault → ReadFault → Type 0
IsLineFault n r (why.Line m f) = (m ≡ n) × (r ≡ Err f)
IsLineFault n r why.OutOfMemory = Unit {0}
IsLineFault n r why.Source = ⊥
IsLineFault n r (why.Cell f) = ⊥

-- the fault is that of the first line of the file that is no row, or says nothing of the bytes
abbrev pub IsFileFault : Option (List ℕ) → ReadFault → Type 0
IsFileFault left (why.Line n f) = IsToldBy left (λ bytes. rows_of bytes ≡ Err (n, f))
IsFileFault left why.OutOfMemory = Unit {0}
IsFileFault left why.Source = Unit {0}
IsFileFault left (why.Cell f) = ⊥

-- the same, or all lines are rows, and the fault is that of the first cell that breaks a rule of sites
abbrev pub IsSiteFault : Option (List ℕ) → ReadFault → Type 0
IsSiteFault left (why.Cell f) = IsToldBy left (λ bytes. (rows : List (Cell × Row)) × (rows_of bytes ≡ Ok rows) × IsNoSite rows 0 f)
IsSiteFault left f = IsFileFault left f
