use Rattle.render_array.specs.Nodes.{node_shown}
use Rattle.render_canvas.proofs.Run.{next, done, if_true, if_false}
use Rattle.render_array.proofs.nodes.node_shown.Goals as goal

pub returns-then-may_view_node : goal.returns-then-may_view_node
unfolding node_shown
returns-then-may_view_node c = next _ c.in-Some.ensures.shows (next _ c.may_view_node.ensures (if_true _ c.if-may_view_node.true c.node_in_mode.ensures))

pub returns-else-may_view_node : goal.returns-else-may_view_node
unfolding node_shown
returns-else-may_view_node c = next _ c.in-Some.ensures.shows (next _ c.may_view_node.ensures (if_false _ c.if-may_view_node.false done))

pub returns-in_default : goal.returns-in_default
unfolding node_shown
returns-in_default c = next _ c.in_default.ensures.shows done
