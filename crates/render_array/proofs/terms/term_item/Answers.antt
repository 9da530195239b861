use Rattle.render_array.specs.Nodes.{term_item}
use Rattle.render_canvas.proofs.Run.{next, done}
use Rattle.render_array.proofs.terms.term_item.Goals as goal

pub returns-in-Some : goal.returns-in-Some
unfolding term_item
returns-in-Some c = next _ c.in-Some.ensures.shows c.term_named.ensures

pub returns-in_default : goal.returns-in_default
unfolding term_item
returns-in_default c = next _ c.in_default.ensures.shows done
