-- What is printed: of rows that are refused, and of jobs that are done.
use Rattle.std.specs.Prelude.{ℕ, List, ◌++◌, codes, Option, Some, None}
use Rattle.std.specs.Fmt.{decimal}
use Rattle.content_rows.specs.CellText.{cell_text}
use Rattle.content_rows.specs.declared.cell.Cell.{Cell}
use Rattle.content_state.specs.declared.site_rules.NotASite.{NotASite}
use Rattle.content_state.specs.declared.site_rules.SiteRule.{SiteRule}
use Rattle.content_state.specs.declared.site_rules.SiteRule.TheVariants as rule
use Rattle.content_state.specs.declared.site_rules.SiteField.{SiteField}
use Rattle.content_state.specs.declared.site_rules.SiteField.TheVariants as field
use Rattle.json_keys.specs.Words.{rule_word}
use Rattle.site_files.specs.declared.fault.LineFault.{LineFault}
use Rattle.site_files.specs.declared.fault.LineFault.TheVariants as line
use Rattle.site_files.specs.declared.fault.ReadFault.{ReadFault}
use Rattle.site_files.specs.declared.fault.ReadFault.TheVariants as why
use Rattle.site_import.specs.declared.ImportFault.{ImportFault}
use Rattle.site_import.specs.declared.ImportFault.TheVariants as import_fault

-- the word of a rule of sites
abbrev pub site_rule_word : SiteRule → List ℕ
site_rule_word rule.Missing = codes "missing"
site_rule_word rule.Range = codes "range"
site_rule_word rule.Absent = codes "absent"
site_rule_word rule.Taken = codes "taken"
site_rule_word rule.Cycle = codes "cycle"
site_rule_word rule.Deep = codes "deep"
site_rule_word rule.Many = codes "many"

-- the word of what breaks it
abbrev pub site_field_word : SiteField → List ℕ
site_field_word field.Cell = codes "cell"
site_field_word field.Node = codes "node"
site_field_word field.Term = codes "term"
site_field_word field.User = codes "user"
site_field_word field.Type = codes "type"
site_field_word field.Uid = codes "uid"
site_field_word field.Uuid = codes "uuid"
site_field_word field.Name = codes "name"
site_field_word field.Path = codes "path"
site_field_word field.Number = codes "number"
site_field_word field.Parent = codes "parent"
site_field_word field.Comment = codes "comment"

-- what is wrong, as `bad-json` or `kind title`
abbrev pub line_says : LineFault → List ℕ
line_says line.BadJson = codes "bad-json"
line_says (line.Rule name broken) = rule_word broken ++ codes " " ++ name

-- of a line, by its number from 1, as `line 2: kind title`
abbrev pub line_text : ℕ → LineFault → List ℕ
line_text number fault = codes "line " ++ decimal number ++ codes ": " ++ line_says fault ++ codes "\n"

-- of a cell, as `cell node:5: absent type`
abbrev pub cell_fault_text : NotASite → List ℕ
cell_fault_text fault = codes "cell " ++ cell_text fault.cell ++ codes ": " ++ site_rule_word fault.rule ++ codes " " ++ site_field_word fault.field ++ codes "\n"

-- of a fault of the rows; none of one of the source or of memory
abbrev pub fault_text : ReadFault → Option (List ℕ)
fault_text (why.Line number fault) = Some (line_text number fault)
fault_text (why.Cell fault) = Some (cell_fault_text fault)
fault_text why.Source = None
fault_text why.OutOfMemory = None

-- of a cell whose write would count a tag past the greatest count, as `cell node:1: full number`
abbrev pub full_text : Cell → List ℕ
full_text cell = codes "cell " ++ cell_text cell ++ codes ": full number\n"

-- of a fault of an import; none of one of the source or of memory
abbrev pub import_fault_text : ImportFault → Option (List ℕ)
import_fault_text (import_fault.Line number fault) = Some (line_text number fault)
import_fault_text (import_fault.Cell fault) = Some (cell_fault_text fault)
import_fault_text (import_fault.Full cell) = Some (full_text cell)
import_fault_text import_fault.Source = None
import_fault_text import_fault.OutOfMemory = None

-- how many rows were read, and how many cells changed
abbrev pub imported_text : ℕ → ℕ → List ℕ
imported_text rows changed = codes "imported " ++ decimal rows ++ codes " changed " ++ decimal changed ++ codes "\n"

-- the number of a site, and how many rows it has
abbrev pub checked_text : ℕ → ℕ → List ℕ
checked_text number rows = codes "site ok number " ++ decimal number ++ codes " rows " ++ decimal rows ++ codes "\n"
