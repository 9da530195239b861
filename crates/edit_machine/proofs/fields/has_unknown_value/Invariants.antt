use Rattle.std.proofs.Common.{◌≡◌, Some, is_none, map, drop}
use Rattle.std.specs.List.{list_any}
use Rattle.site_access.specs.Access.{field_of_type}
use Rattle.edit_machine.proofs.fields.has_unknown_value.Given as goal

-- none of the values so far is unknown
abbrev pub invariant-values : goal.invariant-values
invariant-values l =
    list_any (λ name. is_none (field_of_type name (Some l.node_type))) (map (λ value. value.name) (drop l.value-index l.values))
    ≡ list_any (λ name. is_none (field_of_type name (Some l.node_type))) (map (λ value. value.name) l.values)
