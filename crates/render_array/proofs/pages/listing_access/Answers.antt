use Rattle.std.proofs.Common.{◌∙◌, ap, sym, if◌then◌else◌}
use Rattle.access_result.specs.declared.reason.Reason.TheVariants as reason
use Rattle.content_state.specs.Viewer.{access_content}
use Rattle.site_access.specs.Access.{Allowed, Denied}
use Rattle.site_access.specs.Routes.{listing_access}
use Rattle.render_canvas.proofs.Run.{next, given_by, failed}
use Rattle.render_array.proofs.pages.listing_access.Goals as goal

pub returns-then-holds : goal.returns-then-holds
unfolding listing_access access_content
returns-then-holds c = next _ c.holds.ensures (given_by (ap (λ b. if b then Allowed else Denied (reason.Permission access_content)) c.if-holds.true))

pub returns-in-Ok : goal.returns-in-Ok
unfolding listing_access access_content
returns-in-Ok c =
    next _ c.holds.ensures
    (given_by (ap (λ b. if b then Allowed else Denied (reason.Permission access_content)) c.if-holds.false ∙ ap (λ p. Denied (reason.Permission p)) (sym c.in-Ok.ensures)))

pub returns-in-Err : goal.returns-in-Err
unfolding listing_access access_content
returns-in-Err c = next _ c.holds.ensures (failed _ _ c.fail.ensures)
