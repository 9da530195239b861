use Rattle.std.proofs.Common.{◌≡◌, refl, sym, subst}
use Rattle.cacheability.specs.declared.context.Context.TheVariants as context
use Rattle.content_state.specs.Viewer.{may}
use Rattle.site_access.specs.Plans.{holds}
use Rattle.render_canvas.proofs.Run.{next, asked, given_by}
use Rattle.render_canvas.proofs.canvas.Canvas.holds.Goals as goal

pub returns : goal.returns
unfolding holds
returns c =
    next _ (asked context.UserPermissions _ _ _ c.context.ensures refl)
    (given_by (subst (λ s. may s.visit.rows s.visit.viewer c.args.permission.now ≡ c.may-held.result) c.self.view_is
    (sym (c.may-held.ensures c.self.inside.state.now.rows c.self.invariant.1))))
