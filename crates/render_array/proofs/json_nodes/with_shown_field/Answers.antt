use Rattle.std.proofs.Common.{sym, ◌∙◌, ap, subst}
use Rattle.std.specs.List.{find}
use Rattle.std.specs.Option.{option_copied}
use Rattle.std.specs.Str.{bytes_eq}
use Rattle.render_canvas.specs.Decision.{HasField}
use Rattle.render_array.specs.Json.{with_value, with_shown_field}
use Rattle.render_array.proofs.Gathered.{has_name, valued, valueless}
use Rattle.render_canvas.proofs.Run.{done}
use Rattle.render_array.proofs.json_nodes.with_shown_field.Goals as goal

pub with_value-requires-clause-has_field : goal.with_value-requires-clause-has_field
with_value-requires-clause-has_field c =
    subst (HasField _)
    (sym (has_name c.as_slice.result.now c.args.row.now.name _ (sym c.value_named.ensures ∙ ap option_copied c.in-Some.is)))
    c.requires.has_field

pub returns-in-Some : goal.returns-in-Some
unfolding with_shown_field
returns-in-Some c =
    valued (with_value c.args.n c.args.node.now.node_type _) c.args.node.now c.args.row.now.name _
    (ap (find (λ v. bytes_eq v.name c.args.row.now.name)) (sym c.as_slice.ensures) ∙ sym c.value_named.ensures ∙ ap option_copied c.in-Some.is)
    c.with_value.ensures

pub returns-in_default : goal.returns-in_default
unfolding with_shown_field
returns-in_default c =
    valueless (with_value c.args.n c.args.node.now.node_type _) c.args.node.now c.args.row.now.name
    (ap (find (λ v. bytes_eq v.name c.args.row.now.name)) (sym c.as_slice.ensures) ∙ sym c.value_named.ensures ∙ ap option_copied c.in_default.is) done
