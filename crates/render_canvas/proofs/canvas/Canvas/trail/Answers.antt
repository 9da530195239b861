use Rattle.std.proofs.Common.{◌≡◌, sym, ◌∙◌, ap, subst}
use Rattle.std.specs.Prelude.{Some}
use Rattle.cacheability.specs.declared.context.Context.TheVariants as context
use Rattle.indexed_rows.specs.Rows.{menu_of}
use Rattle.content_state.specs.Context.{trail_in}
use Rattle.render_canvas.proofs.Run.{asked}
use Rattle.render_canvas.proofs.canvas.Canvas.trail.Goals as goal

pub returns-in-Ok : goal.returns-in-Ok
returns-in-Ok c =
    let there : menu_of c.self.inside.state.now.rows c.args.name ≡ Some c.args.menu.now =
    subst (λ s. menu_of s.visit.rows c.args.name ≡ Some c.args.menu.now) (sym c.self.view_is) c.requires in
    asked (context.MenuTrail c.args.name) _ _ _ c.context.ensures
    (rw (← c.self.view_is) (c.in-Ok.ensures ∙ ap (trail_in c.self.inside.state.now.rows c.self.inside.ask.now.path) (sym there)))
