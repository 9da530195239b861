use Rattle.std.proofs.Common.{sym, ◌∙◌}
use Rattle.render_array.specs.Nodes.{submitted_if}
use Rattle.render_canvas.proofs.Run.{done, if_true, if_false}
use Rattle.render_array.proofs.submitted.submitted_if.Goals as goal

pub returns-then-is_submitted : goal.returns-then-is_submitted
unfolding submitted_if
returns-then-is_submitted c = if_true _ (sym c.is_submitted.ensures ∙ c.if-is_submitted.true) c.submitted.ensures

pub returns-else-is_submitted : goal.returns-else-is_submitted
unfolding submitted_if
returns-else-is_submitted c = if_false _ (sym c.is_submitted.ensures ∙ c.if-is_submitted.false) done
