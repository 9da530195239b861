use Rattle.render_array.specs.Page.{nothing_found}
use Rattle.render_canvas.proofs.Run.{if_true, if_false}
use Rattle.render_array.proofs.pages.nothing_found.Goals as goal

pub returns-then-json : goal.returns-then-json
unfolding nothing_found
returns-then-json c = if_true _ c.if-json.true c.json_not_found.ensures

pub returns-else-json : goal.returns-else-json
unfolding nothing_found
returns-else-json c = if_false _ c.if-json.false c.not_found.ensures
