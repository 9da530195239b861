-- Rows that bodies set: what is let through is right for its cell.
use Rattle.std.proofs.Common.{◌≡◌, ℕ, List, Option, None, Some, refl}
use Rattle.serde_json.specs.Data.{Data}
use Rattle.content_rows.specs.ValidRow.{IsValidRow}
use Rattle.content_rows.specs.declared.cell.Cell.TheVariants as cell
use Rattle.content_rows.specs.declared.row.Row.{Row}
use Rattle.content_rows.specs.declared.row.Row.TheVariants as row
use Rattle.json_keys.specs.Checked.{go_on, unless_faulty}
use Rattle.json_keys.specs.Fault.{ask_fault, is_wanted, first_fault}
use Rattle.json_keys.specs.Order.{AllInOrder}
use Rattle.json_keys.specs.declared.checked.Checked.{Checked}
use Rattle.json_keys.specs.declared.checked.Checked.TheVariants as checked
use Rattle.json_keys.specs.declared.rule.Rule.{Rule}
use Rattle.json_keys.specs.declared.shape.Ask.{Ask}
use Rattle.row_kinds.specs.Rows.{site_in, type_in, role_in, menu_in, listing_in, block_in}
use Rattle.row_kinds.specs.Tables.{site_keys, type_keys, role_keys, menu_keys, listing_keys, block_keys}
use Rattle.row_kinds.proofs.Objects.{IsPassed, held}
use Rattle.row_kinds.proofs.ContentLaws.{type_right}
use Rattle.row_kinds.proofs.PeopleLaws.{role_right}
use Rattle.row_kinds.proofs.StructureLaws.{site_right, menu_right, listing_right, block_right}
use Rattle.row_json.specs.Whole.{whole_fault}
use Rattle.row_json.proofs.Wholes.{type_whole, menu_whole, listing_whole, block_whole}
use Rattle.site_commands.specs.Config.{cell_for}
use Rattle.site_commands.specs.Right.{OfBody, IsConfigRow}
use Rattle.site_commands.specs.declared.command.ConfigKind.{ConfigKind}
use Rattle.site_commands.specs.declared.command.ConfigKind.TheVariants as kind
use Rattle.body_kinds.specs.SetRows.{whole_row, config_row, settings_row}

-- a row that its table lets through, and whose keys break nothing together, is right
abbrev IsRightKind : {X : Type 0} → (X → Row) → (Data → X) → List (List ℕ × Ask) → (Row → Type 0) → Data → Type 0
IsRightKind make of keys P d = IsPassed ask_fault is_wanted keys d → whole_fault (make (of d)) ≡ None → P (make (of d))

whole_at : (P : Row → Type 0) (r : Row) (f : Option (List ℕ × Rule)) → whole_fault r ≡ f → (whole_fault r ≡ None → P r) → OfBody P (unless_faulty r f)
whole_at P r None is right = right is
whole_at P r (Some f) is right = tt

kind_at : {X : Type 0} (make : X → Row) (of : Data → X) (keys : List (List ℕ × Ask)) (P : Row → Type 0) (d : Data) (f : Option (List ℕ × Rule)) → first_fault keys d ≡ f → AllInOrder d
    → IsRightKind make of keys P d → OfBody P (go_on (λ r. unless_faulty r (whole_fault r)) (go_on (λ x. checked.Right (make x)) (unless_faulty (of d) f)))
kind_at make of keys P d None is o right =
    whole_at P (make (of d)) (whole_fault (make (of d))) refl (right (record { order = o; passed = is }))
kind_at make of keys P d (Some f) is o right = tt

row_right : {X : Type 0} (make : X → Row) (of : Data → X) (keys : List (List ℕ × Ask)) (P : Row → Type 0) (d : Data) → AllInOrder d → IsRightKind make of keys P d
    → OfBody P (whole_row make of keys d)
row_right make of keys P d o right = kind_at make of keys P d (first_fault keys d) refl o right

named_right : (k : ConfigKind) (name : List ℕ) (d : Data) → AllInOrder d → OfBody (IsValidRow (cell_for k name)) (config_row k d)
named_right kind.Role name d o =
    row_right row.Role role_in role_keys (IsValidRow (cell.Role name)) d o (λ p w. (role_right d (held p)).0)
named_right kind.NodeType name d o =
    row_right row.NodeType type_in type_keys (IsValidRow (cell.NodeType name)) d o (λ p w. (type_right d (held p) (type_whole (type_in d) w)).0)
named_right kind.Block name d o =
    row_right row.Block block_in block_keys (IsValidRow (cell.Block name)) d o (λ p w. (block_right d (held p) (block_whole (block_in d) w)).0)
named_right kind.Menu name d o =
    row_right row.Menu menu_in menu_keys (IsValidRow (cell.Menu name)) d o (λ p w. (menu_right d (held p) (menu_whole (menu_in d) w)).0)
named_right kind.Listing name d o =
    row_right row.Listing listing_in listing_keys (IsValidRow (cell.Listing name)) d o (λ p w. (listing_right d (held p) (listing_whole (listing_in d) w)).0)

unnamed_right : (k : ConfigKind) (body : Checked Row) → OfBody (IsConfigRow k None) body
unnamed_right k (checked.Right r) = tt
unnamed_right k (checked.Broken field broken) = tt

pub config_right : (k : ConfigKind) (name : Option (List ℕ)) (d : Data) → AllInOrder d → OfBody (IsConfigRow k name) (config_row k d)
config_right k None d o = unnamed_right k (config_row k d)
config_right k (Some name) d o = named_right k name d o

pub settings_right : (d : Data) → AllInOrder d → OfBody (IsValidRow cell.Site) (settings_row d)
settings_right d o = row_right row.Site site_in site_keys (IsValidRow cell.Site) d o (λ p w. site_right d (held p))
