use Rattle.std.proofs.Common.{◌≡◌, ◌<◌, ◌≤◌, length, sym, ap, ◌∙◌, arith, map, Ok, Err}
use Rattle.site_commands.specs.Fields.{value_entry}
use Rattle.edit_machine.specs.Places.{place_in}
use Rattle.edit_machine.proofs.Values.{place_within, free_within, set_at, inserted_at}
use Rattle.edit_machine.proofs.fields.set_value.Goals as goal

pub index_mut-requires : goal.index_mut-requires
index_mut-requires c =
    let within : c.in-Ok.place < length c.as_slice.result.now = place_within c.args.name c.as_slice.result.now c.in-Ok.place (sym c.in-Ok.ensures) in
    omega (arith, c.as_slice.ensures.len, within)

pub insert-requires : goal.insert-requires
insert-requires c =
    let within : c.in-Err.place ≤ length c.as_slice.result.now = free_within c.args.name c.as_slice.result.now c.in-Err.place (sym c.in-Err.ensures) in
    omega (arith, c.as_slice.ensures.len, within)

pub returns-in-Ok : goal.returns-in-Ok
returns-in-Ok c =
    let vs = c.args.values.now.items in
    let found : place_in vs c.args.name ≡ Ok c.in-Ok.place = sym (c.in-Ok.ensures ∙ ap (λ vs. place_in vs c.args.name) c.as_slice.ensures.value) in
    set_at c.args.name c.args.value vs c.in-Ok.place c.index_mut.result.now found c.index_mut.ensures.value

pub returns-in_ok-insert-in-Err : goal.returns-in_ok-insert-in-Err
returns-in_ok-insert-in-Err c =
    let vs = c.args.values.now.items in
    let found : place_in vs c.args.name ≡ Err c.in-Err.place = sym (c.in-Err.ensures ∙ ap (λ vs. place_in vs c.args.name) c.as_slice.ensures.value) in
    ap (map value_entry) c.in_ok-insert-in-Err.ensures.items ∙ inserted_at c.args.name c.args.value vs c.in-Err.place found
