use Rattle.std.proofs.Common.{◌∙◌}
use Rattle.access_result.specs.Reason.{reason_text}
use Rattle.content_state.specs.Plan.{escaped}
use Rattle.render_canvas.proofs.Run.{failed, escaped_by}
use Rattle.render_canvas.proofs.canvas.Canvas.reason.Goals as goal

pub returns-in-Ok : goal.returns-in-Ok
returns-in-Ok c = escaped_by c.escaped.ensures (c.as_slice.ensures.value ∙ c.in-Ok.ensures)

pub returns-in-Err : goal.returns-in-Err
returns-in-Err c = failed (escaped (reason_text c.args.reason.now)) _ c.fail.ensures
