use Rattle.std.proofs.Common.{[], ap, ◌∙◌, map}
use Rattle.content_state.specs.Plan.{folded}
use Rattle.json_out.specs.Told.{node_json}
use Rattle.render_array.specs.Nodes.{with_viewable_term}
use Rattle.render_array.specs.Json.{told}
use Rattle.render_canvas.proofs.Run.{next, over_text}
use Rattle.render_array.proofs.json_nodes.json_node_told.Goals as goal

pub returns : goal.returns
returns c =
    next _ c.node_type-node_type.ensures.shows (next _ c.shown_fields-fields.ensures
    (next _ (over_text (folded with_viewable_term []) c.viewable_terms-terms.ensures c.as_slice.ensures)
    (over_text (told 200) (c.told.ensures _ c.node_json-text.ensures)
    (ap (λ fields. node_json c.args.n c.args.node.now (map (λ field. field.now) fields) c.as_slice-3.result.now) c.as_slice-2.ensures.value
    ∙ ap (node_json c.args.n c.args.node.now (map (λ field. field.now) c.shown_fields-fields.result.items)) c.as_slice-3.ensures.value))))
