use Rattle.std.proofs.Common.{◌≡◌, ◌<◌, length, sym, ap, ◌∙◌, arith, map, Some, None}
use Rattle.site_commands.specs.Fields.{value_entry}
use Rattle.edit_machine.specs.Places.{place_of}
use Rattle.edit_machine.proofs.Values.{first_within, removed_at, none_removed}
use Rattle.edit_machine.proofs.fields.remove_value.Goals as goal

pub remove-requires : goal.remove-requires
remove-requires c =
    let within : c.in-Some.place < length c.as_slice.result.now = first_within c.args.name.now c.as_slice.result.now c.in-Some.place (sym c.in-Some.ensures) in
    omega (arith, c.as_slice.ensures.len, within)

pub returns-in-Some : goal.returns-in-Some
returns-in-Some c =
    let vs = c.args.values.now.items in
    let found : place_of vs c.args.name.now ≡ Some c.in-Some.place = sym (c.in-Some.ensures ∙ ap (λ vs. place_of vs c.args.name.now) c.as_slice.ensures.value) in
    ap (map value_entry) c.remove.ensures.items ∙ removed_at c.args.name.now vs c.in-Some.place found

pub returns-in_default : goal.returns-in_default
returns-in_default c =
    let vs = c.args.values.now.items in
    let absent : place_of vs c.args.name.now ≡ None = sym (c.in_default.ensures ∙ ap (λ vs. place_of vs c.args.name.now) c.as_slice.ensures.value) in
    none_removed c.args.name.now vs absent
