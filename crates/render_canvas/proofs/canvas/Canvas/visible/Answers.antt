use Rattle.std.proofs.Common.{sym, ◌∙◌}
use Rattle.site_lists.specs.Visible.{visible}
use Rattle.site_lists.proofs.VisiblePlans.{visible_answers}
use Rattle.render_canvas.proofs.Run.{next, done}
use Rattle.render_canvas.proofs.Noted.{by_result}
use Rattle.render_canvas.proofs.canvas.Canvas.visible.Goals as goal

pub returns : goal.returns
unfolding visible
returns c =
    by_result (next _ c.by_roles.ensures (next _ c.by_path.ensures done))
    (rw (← c.self.view_is) (c.block_visible-shows.ensures ∙ sym ((visible_answers c.args.block.now _).0)))
