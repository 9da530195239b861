use Rattle.std.proofs.Common.{sym, subst}
use Rattle.content_state.specs.There.{IsThere}
use Rattle.render_array.specs.Menus.{may_follow}
use Rattle.render_canvas.proofs.Run.{next}
use Rattle.render_array.proofs.menus.may_follow.Goals as goal

pub may_follow_to-requires : goal.may_follow_to-requires
may_follow_to-requires c = λ leads. subst (λ v. IsThere v.rows c.route-to.result) (sym c.route-to.ensures.shows.visit) (c.route-to.ensures.there leads)

pub returns : goal.returns
unfolding may_follow
returns c = next _ c.route-to.ensures.shows c.may_follow_to.ensures
