-- The lines of a file, taken one after the other.
use Rattle.std.proofs.Common.{◌≡◌, ◌≤◌, ◌<◌, ◌+◌, ℕ, List, [], ◌∷◌, ◌++◌, length, Bool, true, false, not, ◌==◌, cond, Option, Some, None, option_map, Result, Ok, Err, refl, sym, ap, subst, ◌∙◌, arith, codes, append_assoc, length-append}
use Rattle.std.proofs.lemmas.Bool.{and_parts, lt-ltb, le-ltb}
use Rattle.std.proofs.lemmas.List.{append-nil}
use Rattle.content_rows.specs.declared.cell.Cell.{Cell}
use Rattle.content_rows.specs.declared.row.Row.{Row}
use Rattle.content_state.specs.SiteRules.{IsNoSite, IsRefusal}
use Rattle.content_state.specs.declared.site_rules.NotASite.{NotASite}
use Rattle.content_state.specs.declared.site_rules.Refusal.{Refusal}
use Rattle.content_state.specs.declared.site_rules.Refusal.TheVariants as refusal
use Rattle.json_keys.specs.declared.rule.Rule.TheVariants as rule
use Rattle.site_io.specs.Told.{before, IsNothingLeft}
use Rattle.site_files.specs.Lines.{last_line, lines_from, lines, is_one_line, longest, IsTaken, ended, last, long, TakesLine}
use Rattle.site_files.specs.Faults.{IsOfDevice, fault_of}
use Rattle.site_files.specs.Rows.{row_of_line, with_one_more, with_line, go_on, rows_from, rows_of, IsToldBy, IsLineFault, IsFileFault, IsSiteFault}
use Rattle.site_files.specs.declared.fault.LineFault.{LineFault}
use Rattle.site_files.specs.declared.fault.LineFault.TheVariants as fault
use Rattle.site_files.specs.declared.fault.ReadFault.{ReadFault}
use Rattle.site_files.specs.declared.fault.ReadFault.TheVariants as why

abbrev Stored : Type 0
Stored = List (Cell × Row)

-- ---- lines

not_false : (b : Bool) → not b ≡ true → b ≡ false
not_false true h = cc
not_false false h = refl

-- bytes without a line end belong to the line that is begun
through : (begun line rest : List ℕ) → is_one_line line ≡ true → lines_from begun (line ++ rest) ≡ lines_from (begun ++ line) rest
through begun [] rest h = rw (append-nil begun) refl
through begun (b ∷ line) rest h =
    let both = and_parts (not (b == 10)) (is_one_line line) h in
    rw (not_false (b == 10) both.0) (through (begun ++ b ∷ []) line rest both.1 ∙ ap (λ s. lines_from s rest) (append_assoc begun (b ∷ []) line))

-- a line that is begun is the front of the first
abbrev BeginsWith : List ℕ → List (List ℕ) → Type 0
BeginsWith begun ls = (more : List ℕ) × (others : List (List ℕ)) × (ls ≡ (begun ++ more) ∷ others)

begun_end : (begun : List ℕ) → 1 ≤ length begun → BeginsWith begun (last_line begun)
begun_end [] some = absurd (omega arith)
begun_end (x ∷ begun) some = ([], [], rw (append-nil begun) refl)

begun_at : (here : Bool) (begun : List ℕ) (b : ℕ) (bytes : List ℕ) → BeginsWith (begun ++ b ∷ []) (lines_from (begun ++ b ∷ []) bytes)
    → BeginsWith begun (cond here (begun ∷ lines_from [] bytes) (lines_from (begun ++ b ∷ []) bytes))
begun_at true begun b bytes next = ([], lines_from [] bytes, rw (append-nil begun) refl)
begun_at false begun b bytes (more, others, is) = (b ∷ more, others, is ∙ ap (λ s. s ∷ others) (append_assoc begun (b ∷ []) more))

begun_first : (bytes begun : List ℕ) → 1 ≤ length begun → BeginsWith begun (lines_from begun bytes)
begun_first [] begun some = begun_end begun some
begun_first (b ∷ bytes) begun some =
    begun_at (b == 10) begun b bytes (begun_first bytes (begun ++ b ∷ []) (omega (arith, length-append begun (b ∷ []))))

last_one : (line : List ℕ) → 1 ≤ length line → last_line line ≡ line ∷ []
last_one [] some = absurd (omega arith)
last_one (b ∷ line) some = refl

-- ---- rows, line by line

within : (n : ℕ) (rows : Stored) (line : List ℕ) → n ≤ 100000 → with_line n rows line ≡ with_one_more rows (row_of_line line)
within n rows line few = rw (le-ltb 100000 n few) refl

too_long : (line : List ℕ) → longest < length line → row_of_line line ≡ Err (fault.Rule (codes "-") rule.Length)
too_long line h = rw (lt-ltb longest (length line) h) refl

abbrev from : ℕ → Stored → List ℕ → Result Stored (ℕ × LineFault)
from n rows bytes = rows_from n rows (lines bytes)

-- what is read of the bytes is what is read of their first line, and then of the rest
abbrev ReadsOn : ℕ → Stored → List ℕ → List ℕ → List ℕ → Type 0
ReadsOn n rows bytes line rest = from n rows bytes ≡ go_on n (with_one_more rows (row_of_line line)) (λ longer. from (n + 1) longer rest)

next_line : (n : ℕ) (rows : Stored) (line : List ℕ) (others : List (List ℕ)) → n ≤ 100000
    → rows_from n rows (line ∷ others) ≡ go_on n (with_one_more rows (row_of_line line)) (λ longer. rows_from (n + 1) longer others)
next_line n rows line others few = ap (λ r. go_on n r (λ longer. rows_from (n + 1) longer others)) (within n rows line few)

long_line : (n : ℕ) (rows : Stored) (line rest : List ℕ) → n ≤ 100000 → is_one_line line ≡ true → longest < length line → ReadsOn n rows (line ++ rest) line rest
long_line n rows line rest few one h =
    let (more, others, is) = begun_first rest line (omega (arith, h)) in
    let longer : longest < length (line ++ more) = omega (arith, h, length-append line more) in
    ap (rows_from n rows) (through [] line rest one ∙ is) ∙ next_line n rows (line ++ more) others few
    ∙ ap (λ r. go_on n (with_one_more rows r) (λ longer. rows_from (n + 1) longer others)) (too_long (line ++ more) longer)
    ∙ ap (λ r. go_on n (with_one_more rows r) (λ longer. from (n + 1) longer rest)) (sym (too_long line h))

reads_on : (n : ℕ) (rows : Stored) (bytes line rest : List ℕ) → n ≤ 100000 → 1 ≤ length bytes → is_one_line line ≡ true → IsTaken bytes line rest → ReadsOn n rows bytes line rest
reads_on n rows bytes line rest few some one (ended is) =
    ap (from n rows) is ∙ ap (rows_from n rows) (through [] line (10 ∷ rest) one) ∙ next_line n rows line (lines rest) few
reads_on n rows bytes line rest few some one (last is none) =
    let whole : lines line ≡ line ∷ [] = ap lines (sym (append-nil line)) ∙ through [] line [] one ∙ last_one line (omega (arith, some, ap length is)) in
    ap (from n rows) is ∙ ap (rows_from n rows) whole ∙ next_line n rows line [] few
    ∙ ap (λ r. go_on n (with_one_more rows (row_of_line line)) (λ longer. from (n + 1) longer r)) (sym none)
reads_on n rows bytes line rest few some one (long is more) = ap (from n rows) is ∙ long_line n rows line rest few one more

-- ---- of a source that tells what is left

abbrev HasByte : Option (List ℕ) → Type 0
HasByte None = Unit {0}
HasByte (Some bytes) = 1 ≤ length bytes

pub has_byte : (chunk : List ℕ) (left : Option (List ℕ)) → 0 < length chunk → HasByte (before chunk left)
has_byte chunk None some = tt
has_byte chunk (Some rest) some = omega (arith, length-append chunk rest)

-- what the whole is read as is what is left is read as, with the rows so far
abbrev pub ReadSoFar : Option (List ℕ) → ℕ → Stored → Option (List ℕ) → Type 0
ReadSoFar whole n rows ahead = option_map rows_of whole ≡ option_map (from n rows) ahead

some_same : {X : Type 0} (a b : X) → Some a ≡ Some b → a ≡ b
some_same a b h = cc

concludes : (whole ahead : Option (List ℕ)) (F : List ℕ → Result Stored (ℕ × LineFault)) (r : Result Stored (ℕ × LineFault)) → option_map rows_of whole ≡ option_map F ahead
    → IsToldBy ahead (λ bytes. F bytes ≡ r) → IsToldBy whole (λ bytes. rows_of bytes ≡ r)
concludes None ahead F r same told = tt
concludes (Some bytes) None F r same told = absurd cc
concludes (Some bytes) (Some left) F r same told = some_same (rows_of bytes) (F left) same ∙ told

reads_line : (n : ℕ) (rows : Stored) (ahead : Option (List ℕ)) (line : List ℕ) (after : Option (List ℕ)) → n ≤ 100000 → HasByte ahead → TakesLine ahead line after
    → option_map (from n rows) ahead ≡ option_map (λ rest. go_on n (with_one_more rows (row_of_line line)) (λ longer. from (n + 1) longer rest)) after
reads_line n rows None line None few some takes = refl
reads_line n rows (Some bytes) line (Some rest) few some takes = ap Some (reads_on n rows bytes line rest few some takes.0 takes.1)
reads_line n rows None line (Some rest) few some takes = absurd takes
reads_line n rows (Some bytes) line None few some takes = absurd takes

pub nothing_read : (whole : Option (List ℕ)) → ReadSoFar whole 1 [] (before [] whole)
nothing_read None = refl
nothing_read (Some bytes) = refl

pub one_more : (whole : Option (List ℕ)) (n : ℕ) (rows longer : Stored) (ahead : Option (List ℕ)) (line : List ℕ) (after : Option (List ℕ)) → n ≤ 100000 → HasByte ahead → TakesLine ahead line after
    → with_one_more rows (row_of_line line) ≡ Ok longer → ReadSoFar whole n rows ahead → ReadSoFar whole (n + 1) longer after
one_more whole n rows longer ahead line after few some takes added so_far =
    so_far ∙ reads_line n rows ahead line after few some takes
    ∙ ap (λ r. option_map (λ rest. go_on n r (λ longer. from (n + 1) longer rest)) after) added

fault_told : (n : ℕ) (rows : Stored) (line : List ℕ) (f : LineFault) (after : Option (List ℕ)) → with_one_more rows (row_of_line line) ≡ Err f
    → IsToldBy after (λ rest. go_on n (with_one_more rows (row_of_line line)) (λ longer. from (n + 1) longer rest) ≡ Err (n, f))
fault_told n rows line f None h = tt
fault_told n rows line f (Some rest) h = ap (λ r. go_on n r (λ longer. from (n + 1) longer rest)) h

pub line_fault : (whole : Option (List ℕ)) (n : ℕ) (rows : Stored) (ahead : Option (List ℕ)) (line : List ℕ) (after : Option (List ℕ)) (e : ReadFault) → n ≤ 100000 → HasByte ahead
    → TakesLine ahead line after → IsLineFault n (with_one_more rows (row_of_line line)) e → ReadSoFar whole n rows ahead → IsFileFault whole e
line_fault whole n rows ahead line after (why.Line m f) few some takes (same, is) so_far =
    subst (λ (k : ℕ). IsToldBy whole (λ bytes. rows_of bytes ≡ Err (k, f))) (sym same)
    (concludes whole after _ (Err (n, f)) (so_far ∙ reads_line n rows ahead line after few some takes) (fault_told n rows line f after is))
line_fault whole n rows ahead line after why.OutOfMemory few some takes is so_far = tt
line_fault whole n rows ahead line after why.Source few some takes is so_far = tt
line_fault whole n rows ahead line after (why.Cell f) few some takes is so_far = absurd is

nothing_more : (n : ℕ) (rows : Stored) (chunk : List ℕ) (left : Option (List ℕ)) → chunk ≡ [] → IsNothingLeft left → IsToldBy (before chunk left) (λ bytes. from n rows bytes ≡ Ok rows)
nothing_more n rows chunk None empty none = tt
nothing_more n rows chunk (Some rest) empty none = rw (empty, none) refl

pub all_read : (whole : Option (List ℕ)) (n : ℕ) (rows : Stored) (chunk : List ℕ) (left : Option (List ℕ)) → chunk ≡ [] → IsNothingLeft left → ReadSoFar whole n rows (before chunk left)
    → IsToldBy whole (λ bytes. rows_of bytes ≡ Ok rows)
all_read whole n rows chunk left empty none so_far = concludes whole (before chunk left) (from n rows) (Ok rows) so_far (nothing_more n rows chunk left empty none)

first_at : (here : Bool) (b : ℕ) (bytes : List ℕ) → (line : List ℕ) × (others : List (List ℕ)) × (cond here ([] ∷ lines_from [] bytes) (lines_from (b ∷ []) bytes) ≡ line ∷ others)
first_at true b bytes = ([], lines_from [] bytes, refl)
first_at false b bytes = let (more, others, is) = begun_first bytes (b ∷ []) (omega arith) in ((b ∷ []) ++ more, others, is)

one_too_many : (rows : Stored) (bytes : List ℕ) → 1 ≤ length bytes → from 100001 rows bytes ≡ Err (100001, fault.Rule (codes "-") rule.Many)
one_too_many rows [] some = absurd (omega arith)
one_too_many rows (b ∷ bytes) some = let (line, others, is) = first_at (b == 10) b bytes in ap (rows_from 100001 rows) is

many_told : (rows : Stored) (ahead : Option (List ℕ)) → HasByte ahead → IsToldBy ahead (λ bytes. from 100001 rows bytes ≡ Err (100001, fault.Rule (codes "-") rule.Many))
many_told rows None some = tt
many_told rows (Some bytes) some = one_too_many rows bytes some

pub many_lines : (whole : Option (List ℕ)) (rows : Stored) (ahead : Option (List ℕ)) → HasByte ahead → ReadSoFar whole 100001 rows ahead
    → IsToldBy whole (λ bytes. rows_of bytes ≡ Err (100001, fault.Rule (codes "-") rule.Many))
many_lines whole rows ahead some so_far = concludes whole ahead (from 100001 rows) (Err (100001, fault.Rule (codes "-") rule.Many)) so_far (many_told rows ahead some)

-- what is at hand changes, and not what there is
pub filled : (whole : Option (List ℕ)) (n : ℕ) (rows : Stored) (ahead ahead-after : Option (List ℕ)) → ahead-after ≡ ahead → ReadSoFar whole n rows ahead → ReadSoFar whole n rows ahead-after
filled whole n rows ahead ahead-after same so_far = so_far ∙ ap (option_map (from n rows)) (sym same)

-- ---- faults

pub device_fault : (whole : Option (List ℕ)) (e : ReadFault) → IsOfDevice e → IsFileFault whole e
device_fault whole (why.Line n f) h = absurd h
device_fault whole (why.Cell f) h = absurd h
device_fault whole why.Source h = tt
device_fault whole why.OutOfMemory h = tt

pub file_fault : (whole : Option (List ℕ)) (e : ReadFault) → IsFileFault whole e → IsSiteFault whole e
file_fault whole (why.Line n f) h = h
file_fault whole (why.Cell f) h = absurd h
file_fault whole why.Source h = tt
file_fault whole why.OutOfMemory h = tt

told_site : (whole : Option (List ℕ)) (rows : Stored) (f : NotASite) → IsToldBy whole (λ bytes. rows_of bytes ≡ Ok rows) → IsNoSite rows 0 f → IsSiteFault whole (why.Cell f)
told_site None rows f told none = tt
told_site (Some bytes) rows f told none = (rows, told, none)

pub site_fault : (whole : Option (List ℕ)) (rows : Stored) (r : Refusal) → IsToldBy whole (λ bytes. rows_of bytes ≡ Ok rows) → IsRefusal rows 0 r → IsSiteFault whole (fault_of r)
site_fault whole rows (refusal.NoSite f) told refused = told_site whole rows f told refused
site_fault whole rows refusal.OutOfMemory told refused = tt
