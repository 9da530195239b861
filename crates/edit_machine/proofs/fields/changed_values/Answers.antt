use Rattle.std.proofs.Common.{sym, ap, ◌∙◌, fold, map}
use Rattle.std.proofs.lemmas.List.{take_all}
use Rattle.site_commands.specs.Fields.{value_entry, entry_value, with_change}
use Rattle.edit_machine.proofs.Values.{entries_back}
use Rattle.edit_machine.proofs.fields.changed_values.Goals as goal

pub returns : goal.returns
returns c =
    let changes = c.as_slice-change-items.result.now in
    let all = take_all c.changes.change-index changes c.changes-test.false ∙ c.as_slice-change-items.ensures in
    c.from_vec.ensures ∙ sym (entries_back c.changes.all.items) ∙ ap (map entry_value) (c.changes.invariant ∙ ap (fold with_change (map value_entry c.args.values.now)) all)
