use Rattle.std.proofs.Common.{◌∙◌}
use Rattle.content_state.specs.Plan.{write}
use Rattle.render_canvas.proofs.Run.{over_text}
use Rattle.render_canvas.proofs.canvas.Canvas.number.Goals as goal

pub returns-in-Ok : goal.returns-in-Ok
returns-in-Ok c = over_text write c.write.ensures (c.as_bytes.ensures.value ∙ c.in-Ok.ensures.ok)
