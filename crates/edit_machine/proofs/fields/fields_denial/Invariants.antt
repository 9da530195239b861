use Rattle.std.proofs.Common.{◌≡◌, drop, option_copied}
use Rattle.site_access.specs.Account.{OnRows}
use Rattle.site_commands.specs.Fields.{field_denials}
use Rattle.edit_machine.specs.First.{first_cause}
use Rattle.edit_machine.proofs.fields.fields_denial.Given as goal

-- the first of the names that are left is the first of all
abbrev pub invariant-names : goal.invariant-names
invariant-names l =
    OnRows l.account (λ rows.
    first_cause (field_denials rows l.account.viewer l.owner (option_copied l.node_type) (drop l.name-index l.names))
    ≡ first_cause (field_denials rows l.account.viewer l.owner (option_copied l.node_type) l.names))
