use Rattle.render_array.specs.Json.{with_listed}
use Rattle.render_canvas.proofs.Run.{next, done}
use Rattle.render_array.proofs.json_listings.with_listed.Goals as goal

pub returns-in-Some : goal.returns-in-Some
unfolding with_listed
returns-in-Some c = next _ c.in-Some.ensures.shows c.gather_node.ensures

pub returns-in_default : goal.returns-in_default
unfolding with_listed
returns-in_default c = next _ c.in_default.ensures.shows done
