-- Which keys stand in a body, whatever their values.
use Rattle.std.specs.Prelude.{ℕ, List, Bool, Option, Some, None, is_some, filter, codes}
use Rattle.serde_json.specs.Data.{Data, string}
use Rattle.serde_json.specs.Find.{get}
use Rattle.content_rows.specs.LiteralName.{is_name}
use Rattle.json_keys.specs.Fault.{members_in}
use Rattle.json_keys.specs.Order.{names_of}
use Rattle.row_kinds.specs.Look.{value_at}
use Rattle.row_json.specs.Cells.{name_if}
use Rattle.site_commands.specs.declared.command.NodeKeys.{NodeKeys}
use Rattle.site_commands.specs.declared.command.UserKeys.{UserKeys}

abbrev pub has : List ℕ → Data → Bool
has k d = is_some (get k d)

-- the keys inside `fields` that are machine names, in the order of their bytes
abbrev pub field_keys : Data → List (List ℕ)
field_keys d = filter is_name (names_of (members_in (value_at (codes "fields") d)))

abbrev pub node_keys : Data → NodeKeys
node_keys d = record {
  created = has (codes "created") d;
  grants = has (codes "grants") d;
  path = has (codes "path") d;
  promote = has (codes "promote") d;
  status = has (codes "status") d;
  sticky = has (codes "sticky") d;
  uid = has (codes "uid") d;
  fields = field_keys d;
}

abbrev pub user_keys : Data → UserKeys
user_keys d = record { grants = has (codes "grants") d; roles = has (codes "roles") d }

abbrev pub name_told : Option Data → Option (List ℕ)
name_told (Some (string t)) = name_if t
name_told _ = None

-- the machine name at `type`, where there is one
abbrev pub node_type_in : Data → Option (List ℕ)
node_type_in d = name_told (get (codes "type") d)
