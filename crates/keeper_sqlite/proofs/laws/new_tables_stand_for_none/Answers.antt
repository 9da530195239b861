use Rattle.keeper_sqlite.proofs.Standing.{new_stand_for_none}
use Rattle.keeper_sqlite.proofs.laws.new_tables_stand_for_none.Goals as goal

pub returns : goal.returns
returns c = new_stand_for_none
