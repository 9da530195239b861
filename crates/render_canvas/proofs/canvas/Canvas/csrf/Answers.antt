use Rattle.std.proofs.Common.{◌∙◌}
use Rattle.content_state.specs.Plan.{write}
use Rattle.render_canvas.proofs.Run.{over_text}
use Rattle.render_canvas.proofs.canvas.Canvas.csrf.Goals as goal

pub returns : goal.returns
returns c = over_text write c.write.ensures (c.as_slice.ensures ∙ c.csrf_of.ensures)
