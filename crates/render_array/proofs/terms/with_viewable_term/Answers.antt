use Rattle.render_array.specs.Nodes.{with_viewable_term}
use Rattle.render_array.proofs.Lists.{gathered, passed_over}
use Rattle.render_canvas.proofs.Run.{next, done}
use Rattle.render_array.proofs.terms.with_viewable_term.Goals as goal

pub returns-then-may_view_term : goal.returns-then-may_view_term
unfolding with_viewable_term
returns-then-may_view_term c =
    next _ c.in-Some.ensures.shows (next _ c.may_view_term.ensures (gathered _ c.if-may_view_term.true c.gather.ensures))

pub returns-else-may_view_term : goal.returns-else-may_view_term
unfolding with_viewable_term
returns-else-may_view_term c =
    next _ c.in-Some.ensures.shows (next _ c.may_view_term.ensures (passed_over _ c.if-may_view_term.false))

pub returns-in_default : goal.returns-in_default
unfolding with_viewable_term
returns-in_default c = next _ c.in_default.ensures.shows done
