use Rattle.row_kinds.proofs.Names.{name_passes}
use Rattle.row_kinds.proofs.field.name_bytes.Goals as goal

pub returns-clause-of_name : goal.returns-clause-of_name
returns-clause-of_name c = name_passes c.args.name.now c.as_bytes.ensures.of_name
