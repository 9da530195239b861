use Rattle.std.proofs.Common.{◌∙◌, ap}
use Rattle.row_json.specs.Reading.{reading}
use Rattle.row_json.proofs.Back.{comes_back}
use Rattle.row_json.proofs.object.row_to_json.Goals as goal

pub returns-clause-back : goal.returns-clause-back
returns-clause-back c =
    λ valid. ap reading c.in_ok-object_of.ensures.written ∙ comes_back c.args.cell.now c.args.row.now c.in_ok-object_of.ensures.of_cell c.in_ok-object_of.ensures.of_row valid
