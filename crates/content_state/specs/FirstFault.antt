-- A search for the first cell that breaks a rule.
use Rattle.std.specs.Prelude.{List, [], ◌∷◌, Option, Some, None}
use Rattle.std.specs.Option.{option_or}
use Rattle.content_rows.specs.Permission.{anonymous, authenticated}
use Rattle.content_rows.specs.declared.cell.Cell.{Cell}
use Rattle.content_rows.specs.declared.cell.Cell.TheVariants as cell
use Rattle.content_rows.specs.declared.row.Row.{Row}
use Rattle.content_state.specs.declared.site_rules.SiteRule.{SiteRule}
use Rattle.content_state.specs.declared.site_rules.SiteField.{SiteField}
use Rattle.content_state.specs.declared.site_rules.NotASite.{NotASite}
use Rattle.content_state.specs.SiteRules.{cell_fault}

abbrev pub fault_at : Cell → Option (SiteRule × SiteField) → Option NotASite
fault_at c None = None
fault_at c (Some fault) = Some (record { cell = c; rule = fault.0; field = fault.1 })

-- the first of these cells that breaks a rule
abbrev pub first_among : List (Cell × Row) → List Cell → Option NotASite
first_among rows [] = None
first_among rows (c ∷ cs) = option_or (fault_at c (cell_fault rows c)) (first_among rows cs)

-- the cells that are to be there in every site, which come before all other cells that can break a rule
abbrev pub required : List Cell
required = cell.Site ∷ cell.Seq ∷ cell.Role anonymous ∷ cell.Role authenticated ∷ []
