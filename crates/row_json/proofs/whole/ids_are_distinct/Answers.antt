use Rattle.row_json.proofs.Distinct.{answers}
use Rattle.row_json.proofs.whole.ids_are_distinct.Goals as goal

pub returns : goal.returns
returns c = answers c.have_distinct_ids.result _ c.have_distinct_ids.ensures
