use Rattle.keeper_sqlite.proofs.keeper.SqliteKeeperKeeper.apply.Goals as goal

pub returns-in-Ok-clause-applies : goal.returns-in-Ok-clause-applies
returns-in-Ok-clause-applies g c = rw (← c.self.view_is) c.in-Ok.ensures

pub returns-in-Err-clause-applies : goal.returns-in-Err-clause-applies
returns-in-Err-clause-applies g c = rw (← c.self.view_is, c.counted.ensures.same, c.counted.ensures.only) c.in-Err.ensures
