-- Rows that the body of an edit sets: whole rows without their cells.
use Rattle.std.specs.Prelude.{ℕ, List}
use Rattle.serde_json.specs.Data.{Data}
use Rattle.content_rows.specs.declared.row.Row.{Row}
use Rattle.content_rows.specs.declared.row.Row.TheVariants as row
use Rattle.json_keys.specs.Checked.{go_on, unless_faulty}
use Rattle.json_keys.specs.declared.checked.Checked.{Checked}
use Rattle.json_keys.specs.declared.shape.Ask.{Ask}
use Rattle.row_kinds.specs.Rows.{site_in, type_in, role_in, menu_in, listing_in, block_in}
use Rattle.row_kinds.specs.Tables.{site_keys, type_keys, role_keys, menu_keys, listing_keys, block_keys}
use Rattle.row_json.specs.Reading.{of_kind}
use Rattle.row_json.specs.Whole.{whole_fault}
use Rattle.site_commands.specs.declared.command.ConfigKind.{ConfigKind}
use Rattle.site_commands.specs.declared.command.ConfigKind.TheVariants as kind

-- a row of a kind, by a table of keys, and then by what the keys break together
abbrev pub whole_row : {X : Type 0} → (X → Row) → (Data → X) → List (List ℕ × Ask) → Data → Checked Row
whole_row make of keys d = go_on (λ r. unless_faulty r (whole_fault r)) (of_kind make of keys d)

-- the keys are those of the row but the cell
abbrev pub config_row : ConfigKind → Data → Checked Row
config_row kind.Role d = whole_row row.Role role_in role_keys d
config_row kind.NodeType d = whole_row row.NodeType type_in type_keys d
config_row kind.Block d = whole_row row.Block block_in block_keys d
config_row kind.Menu d = whole_row row.Menu menu_in menu_keys d
config_row kind.Listing d = whole_row row.Listing listing_in listing_keys d

abbrev pub settings_row : Data → Checked Row
settings_row d = whole_row row.Site site_in site_keys d
