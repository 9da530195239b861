use Rattle.std.proofs.Common.{length, sym, ◌∙◌, ap}
use Rattle.std.specs.Prelude.{◌==◌}
use Rattle.render_array.proofs.Lists.{gathered, passed_over}
use Rattle.render_canvas.proofs.Run.{next, done, if_true, if_false}
use Rattle.render_array.proofs.json_nodes.with_value.Goals as goal

pub returns-then-is_empty : goal.returns-then-is_empty
returns-then-is_empty c = if_true _ (sym (ap (λ t. length t == 0) c.as_slice.ensures) ∙ sym c.is_empty.ensures ∙ c.if-is_empty.true) done

pub returns-then-may_view_field : goal.returns-then-may_view_field
returns-then-may_view_field c =
    if_false _ (sym (ap (λ t. length t == 0) c.as_slice.ensures) ∙ sym c.is_empty.ensures ∙ c.if-is_empty.false)
    (next _ c.may_view_field.ensures (gathered _ c.if-may_view_field.true c.gather_value.ensures))

pub returns-else-may_view_field : goal.returns-else-may_view_field
returns-else-may_view_field c =
    if_false _ (sym (ap (λ t. length t == 0) c.as_slice.ensures) ∙ sym c.is_empty.ensures ∙ c.if-is_empty.false)
    (next _ c.may_view_field.ensures (passed_over _ c.if-may_view_field.false))
