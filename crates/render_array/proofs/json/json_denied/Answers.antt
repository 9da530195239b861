use Rattle.render_array.specs.Json.{json_denied}
use Rattle.render_array.proofs.json.json_denied.Goals as goal

pub returns : goal.returns
unfolding json_denied
returns c = c.told.ensures _ c.denied_json-text.ensures
