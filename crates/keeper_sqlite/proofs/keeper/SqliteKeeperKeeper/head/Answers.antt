use Rattle.keeper_sqlite.proofs.keeper.SqliteKeeperKeeper.head.Goals as goal

pub returns-in-Ok-clause-tells_head : goal.returns-in-Ok-clause-tells_head
returns-in-Ok-clause-tells_head g c = rw (← c.self.view_is) c.in-Ok.ensures

pub returns-in-Err-clause-tells_head : goal.returns-in-Err-clause-tells_head
returns-in-Err-clause-tells_head g c = rw (← c.self.view_is, c.counted.ensures.same, c.counted.ensures.only) c.in-Err.ensures
