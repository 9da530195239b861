use Rattle.keeper_sqlite.proofs.Standing.{stand_for_what_is_read}
use Rattle.keeper_sqlite.proofs.laws.tables_stand_for_what_is_read.Goals as goal

pub returns : goal.returns
returns c = stand_for_what_is_read
