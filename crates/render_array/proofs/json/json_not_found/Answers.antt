use Rattle.render_array.specs.Json.{json_not_found}
use Rattle.render_array.proofs.json.json_not_found.Goals as goal

pub returns : goal.returns
unfolding json_not_found
returns c = c.told.ensures _ c.no_target_json-text.ensures
