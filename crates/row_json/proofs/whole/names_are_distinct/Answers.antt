use Rattle.row_json.proofs.Distinct.{answers}
use Rattle.row_json.proofs.whole.names_are_distinct.Goals as goal

pub returns : goal.returns
returns c = answers c.have_distinct_names.result _ c.have_distinct_names.ensures
