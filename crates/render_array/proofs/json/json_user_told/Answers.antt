use Rattle.render_array.proofs.json.json_user_told.Goals as goal

pub returns : goal.returns
returns c = c.told.ensures _ c.user_json-text.ensures
