use Rattle.std.proofs.Common.{◌≡◌, fold, map, take}
use Rattle.site_commands.specs.Fields.{value_entry, with_change}
use Rattle.edit_machine.proofs.fields.changed_values.Given as goal

-- so far the changes so far are made
abbrev pub invariant-changes : goal.invariant-changes
invariant-changes l =
    map value_entry l.all.items ≡ fold with_change (map value_entry l.values) (take l.change-index l.change-items)
