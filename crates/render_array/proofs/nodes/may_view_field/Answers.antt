use Rattle.std.proofs.Common.{sym, ◌∙◌}
use Rattle.render_array.specs.Nodes.{may_view_field}
use Rattle.render_canvas.proofs.Run.{next, given_by, allowed_is}
use Rattle.render_array.proofs.nodes.may_view_field.Goals as goal

pub returns : goal.returns
unfolding may_view_field
returns c = next _ c.field_access.ensures (given_by (allowed_is c.field_access.result ∙ sym c.is_ok.ensures.value))
