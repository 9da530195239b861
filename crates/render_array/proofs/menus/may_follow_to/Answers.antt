use Rattle.std.proofs.Common.{sym, ◌∙◌}
use Rattle.render_array.proofs.MenuLaws.{followed}
use Rattle.render_canvas.proofs.Run.{next, done, given_by, allowed_is}
use Rattle.render_array.proofs.menus.may_follow_to.Goals as goal

pub returns-in-Nothing : goal.returns-in-Nothing
returns-in-Nothing c = rw c.in-Nothing.is done

pub returns-in_default : goal.returns-in_default
returns-in_default c =
    followed _ _ c.in_default.not-Nothing
    (next _ c.route_access.ensures (given_by (allowed_is c.route_access.result ∙ sym c.is_ok.ensures.value)))
