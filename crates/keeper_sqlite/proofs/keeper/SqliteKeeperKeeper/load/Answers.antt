use Rattle.keeper_sqlite.proofs.keeper.SqliteKeeperKeeper.load.Goals as goal

pub returns-in-Ok-clause-loads : goal.returns-in-Ok-clause-loads
returns-in-Ok-clause-loads g c = rw (← c.self.view_is) c.in-Ok.ensures.loads

pub returns-in-Err-clause-loads : goal.returns-in-Err-clause-loads
returns-in-Err-clause-loads g c = rw (← c.self.view_is, c.counted.ensures.same, c.counted.ensures.only) c.in-Err.ensures.loads
