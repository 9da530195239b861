use Rattle.keeper_sqlite.proofs.Standing.{stand_for_one}
use Rattle.keeper_sqlite.proofs.laws.tables_stand_for_one.Goals as goal

pub returns : goal.returns
returns c = stand_for_one
