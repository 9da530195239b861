use Rattle.render_array.proofs.json.json_term_told.Goals as goal

pub returns : goal.returns
returns c = c.told.ensures _ c.term_json-text.ensures
