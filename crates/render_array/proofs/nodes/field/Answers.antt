use Rattle.std.proofs.Common.{sym, ◌∙◌}
use Rattle.render_array.specs.Nodes.{field, field_with, field_shown}
use Rattle.render_canvas.proofs.Run.{next, done, if_true, if_false, over_text}
use Rattle.render_array.proofs.nodes.field.Goals as goal

pub returns-then-is_empty : goal.returns-then-is_empty
unfolding field
returns-then-is_empty c =
    over_text (field_with c.args.n c.args.node.now.node_type c.args.row.now) (if_true _ (sym c.is_empty.ensures ∙ c.if-is_empty.true) done)
    c.value_in-value.ensures

pub returns-then-may_view_field : goal.returns-then-may_view_field
unfolding field
returns-then-may_view_field c =
    over_text (field_with c.args.n c.args.node.now.node_type c.args.row.now)
    (if_false _ (sym c.is_empty.ensures ∙ c.if-is_empty.false)
    (next _ c.may_view_field.ensures (if_true _ c.if-may_view_field.true (over_text (λ label. field_shown label c.value_in-value.result.now) c.field_shown.ensures c.as_slice.ensures))))
    c.value_in-value.ensures

pub returns-else-may_view_field : goal.returns-else-may_view_field
unfolding field
returns-else-may_view_field c =
    over_text (field_with c.args.n c.args.node.now.node_type c.args.row.now)
    (if_false _ (sym c.is_empty.ensures ∙ c.if-is_empty.false)
    (next _ c.may_view_field.ensures (if_false _ c.if-may_view_field.false done)))
    c.value_in-value.ensures
