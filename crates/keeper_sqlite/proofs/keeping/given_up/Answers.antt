use Rattle.std.proofs.Common.{refl}
use Rattle.keeper_sqlite.proofs.keeping.given_up.Goals as goal

pub returns-clause-same : goal.returns-clause-same
returns-clause-same g c = refl

pub returns-clause-undone : goal.returns-clause-undone
returns-clause-undone g c = record { passes = c.rollback.ensures.passes; kept = c.rollback.ensures.kept; outside = c.rollback.ensures.outside; steady = c.rollback.ensures.steady }
