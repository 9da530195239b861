use Rattle.render_array.specs.Json.{json_user}
use Rattle.render_canvas.proofs.Run.{next}
use Rattle.render_array.proofs.json.json_user.Goals as goal

pub returns-in_default : goal.returns-in_default
unfolding json_user
returns-in_default c = next _ c.in_default.ensures.shows c.json_not_found.ensures

pub returns-in-Ok : goal.returns-in-Ok
unfolding json_user
returns-in-Ok c = next _ c.in-Some.ensures.shows (next _ c.in-Ok.ensures c.json_user_told.ensures)

pub returns-in-Err : goal.returns-in-Err
unfolding json_user
returns-in-Err c = next _ c.in-Some.ensures.shows (next _ c.in-Err.ensures c.json_denied.ensures)
