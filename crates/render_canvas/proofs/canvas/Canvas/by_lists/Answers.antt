use Rattle.std.proofs.Common.{◌∙◌}
use Rattle.render_canvas.proofs.Run.{tags_by}
use Rattle.render_canvas.proofs.Noted.{among_noted}
use Rattle.render_canvas.proofs.canvas.Canvas.by_lists.Goals as goal

pub returns-in-Ok : goal.returns-in-Ok
returns-in-Ok c = among_noted _ _ _ (tags_by (c.as_slice.ensures.value ∙ c.in-Ok.ensures) c.all_tags.ensures)
