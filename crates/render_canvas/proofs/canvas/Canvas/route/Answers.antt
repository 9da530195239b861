use Rattle.std.proofs.Common.{◌∙◌}
use Rattle.content_state.specs.Read.{PathRoute}
use Rattle.content_state.specs.Plan.{reading}
use Rattle.render_canvas.proofs.Run.{read, failed, tags_by}
use Rattle.render_canvas.proofs.canvas.Canvas.route.Goals as goal

pub returns-in-Ok-clause-shows : goal.returns-in-Ok-clause-shows
returns-in-Ok-clause-shows c =
    read (PathRoute c.args.path.now) _ _ _ (tags_by (rw (← c.self.view_is) (c.as_slice.ensures ∙ c.in-Ok.ensures.leads.1)) c.all_tags.ensures)
    (rw (← c.self.view_is) c.in-Ok.ensures.leads.0)

pub returns-in-Ok-clause-there : goal.returns-in-Ok-clause-there
returns-in-Ok-clause-there c = rw (← c.self.view_is) c.in-Ok.ensures.there

pub returns-in-Err-clause-shows : goal.returns-in-Err-clause-shows
returns-in-Err-clause-shows c = failed (reading (PathRoute c.args.path.now)) _ c.fail.ensures
