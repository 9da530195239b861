use Rattle.std.proofs.Common.{sym, ◌∙◌}
use Rattle.render_array.specs.Nodes.{may_view_node}
use Rattle.render_canvas.proofs.Run.{next, given_by, allowed_is}
use Rattle.render_array.proofs.nodes.may_view_node.Goals as goal

pub returns : goal.returns
unfolding may_view_node
returns c = next _ c.node_access.ensures (given_by (allowed_is c.node_access.result ∙ sym c.is_ok.ensures.value))
