use Rattle.render_array.specs.Nodes.{teaser_field}
use Rattle.render_canvas.proofs.Run.{done, if_true, if_false}
use Rattle.render_array.proofs.nodes.teaser_field.Goals as goal

pub returns-then-row : goal.returns-then-row
unfolding teaser_field
returns-then-row c = if_true _ c.if-row.true c.field.ensures

pub returns-else-row : goal.returns-else-row
unfolding teaser_field
returns-else-row c = if_false _ c.if-row.false done
