use Rattle.std.proofs.Common.{◌≡◌, is_none, map, drop, option_copied}
use Rattle.std.specs.List.{list_any}
use Rattle.site_access.specs.Access.{field_of_type}
use Rattle.edit_machine.proofs.fields.has_unknown_change.Given as goal

-- none of the changes so far is of an unknown field
abbrev pub invariant-changes : goal.invariant-changes
invariant-changes l =
    list_any (λ name. is_none (field_of_type name (option_copied l.node_type))) (map (λ change. change.name) (drop l.change-index l.changes))
    ≡ list_any (λ name. is_none (field_of_type name (option_copied l.node_type))) (map (λ change. change.name) l.changes)
