use Rattle.std.proofs.Common.{sym, ◌∙◌}
use Rattle.render_array.specs.Nodes.{may_view_user}
use Rattle.render_canvas.proofs.Run.{next, given_by, allowed_is}
use Rattle.render_array.proofs.submitted.may_view_user.Goals as goal

pub returns : goal.returns
unfolding may_view_user
returns c = next _ c.user_access.ensures (given_by (allowed_is c.user_access.result ∙ sym c.is_ok.ensures.value))
