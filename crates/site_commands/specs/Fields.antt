-- The values of a node's fields: who may change them, and what becomes of them.
use Rattle.std.specs.Prelude.{ℕ, List, [], ◌∷◌, Option, Some, None, is_none, map, fold, codes}
use Rattle.std.specs.List.{list_any}
use Rattle.std.specs.Map.{remove_entry}
use Rattle.std.specs.BTreeMap.{is_at, insert_entry}
use Rattle.std.specs.Ordering.{nat_cmp}
use Rattle.std.specs.Cmp.Lexicographic.{slice_cmp}
use Rattle.cacheability.specs.declared.op.Op.TheVariants as op
use Rattle.content_rows.specs.declared.cell.Cell.{Cell}
use Rattle.content_rows.specs.declared.row.Row.{Row}
use Rattle.content_rows.specs.declared.row.FieldRow.{FieldRow}
use Rattle.content_rows.specs.declared.row.FieldValue.{FieldValue}
use Rattle.content_rows.specs.declared.row.NodeType.{NodeType}
use Rattle.content_state.specs.Viewer.{administer_nodes}
use Rattle.content_state.specs.declared.ask.Viewer.{Viewer}
use Rattle.json_keys.specs.declared.rule.Rule.TheVariants as rule
use Rattle.site_access.specs.Access.{access_to_field, field_of_type}
use Rattle.site_commands.specs.Causes.{key_needs, breaks, unless_allowed}
use Rattle.site_commands.specs.declared.answer.Refusal.{Refusal}
use Rattle.site_commands.specs.declared.body.FieldChange.{FieldChange}
use Rattle.site_commands.specs.declared.command.NodeKeys.{NodeKeys}

unfoldable pub create_aliases : List ℕ
create_aliases = codes "create url aliases"

-- ---- who may change what

-- editing a field of a type, of a node that belongs to this user; what the type hasn't is no matter of access
abbrev pub field_denial : List (Cell × Row) → Viewer → ℕ → Option FieldRow → Option Refusal
field_denial rows viewer owner None = None
field_denial rows viewer owner (Some field) = unless_allowed (access_to_field rows viewer op.Update owner field)

abbrev pub field_denials : List (Cell × Row) → Viewer → ℕ → Option NodeType → List (List ℕ) → List (Option Refusal)
field_denials rows viewer owner type names = map (λ name. field_denial rows viewer owner (field_of_type name type)) names

-- the keys of a node that need a permission, in the order of their bytes, and then the fields
abbrev pub key_denials : List (Cell × Row) → Viewer → NodeKeys → List (Option Refusal)
key_denials rows viewer keys =
    key_needs rows viewer keys.created administer_nodes
    ∷ key_needs rows viewer keys.grants administer_nodes
    ∷ key_needs rows viewer keys.path create_aliases
    ∷ key_needs rows viewer keys.promote administer_nodes
    ∷ key_needs rows viewer keys.status administer_nodes
    ∷ key_needs rows viewer keys.sticky administer_nodes
    ∷ key_needs rows viewer keys.uid administer_nodes
    ∷ []

-- ---- what the type has

-- a field that is named, and that the type hasn't
abbrev pub unknown_field : Option NodeType → List (List ℕ) → Option Refusal
unknown_field type names = breaks (codes "fields") rule.Unknown (list_any (λ name. is_none (field_of_type name type)) names)

-- ---- what becomes of the values

-- the values as a map by the names of their fields, and back
abbrev pub value_entry : FieldValue → List ℕ × List ℕ
value_entry value = (value.name, value.value)

abbrev pub entry_value : List ℕ × List ℕ → FieldValue
entry_value entry = record { name = entry.0; value = entry.1 }

-- a field gets a value, or loses it
abbrev pub with_value : List (List ℕ × List ℕ) → List ℕ → Option (List ℕ) → List (List ℕ × List ℕ)
with_value entries name None = remove_entry (is_at (slice_cmp nat_cmp name)) entries
with_value entries name (Some value) = insert_entry (slice_cmp nat_cmp) entries name value

abbrev pub with_change : List (List ℕ × List ℕ) → FieldChange → List (List ℕ × List ℕ)
with_change entries change = with_value entries change.name change.value

-- the values after these changes; the others stay
abbrev pub changed_values : List FieldValue → List FieldChange → List FieldValue
changed_values values changes = map entry_value (fold with_change (map value_entry values) changes)
