use Rattle.keeper_sqlite.proofs.Standing.{batches_stand, kept_stands}
use Rattle.keeper_sqlite.proofs.laws.batches_stand.Goals as goal

pub returns-clause-one : goal.returns-clause-one
returns-clause-one c = batches_stand

pub returns-clause-more : goal.returns-clause-more
returns-clause-more c = kept_stands
