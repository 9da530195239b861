use Rattle.keeper_sqlite.proofs.Standing.{number_is_read}
use Rattle.keeper_sqlite.proofs.laws.number_is_read.Goals as goal

pub returns : goal.returns
returns c = number_is_read
