use Rattle.tables_sqlite.proofs.sqlite_six.SqliteSixSix.set_row.Goals as goal

pub set_row-requires : goal.set_row-requires
set_row-requires g c = c.self.invariant

pub invariant_of-self : goal.invariant_of-self
invariant_of-self g c = c.set_row.ensures.serves

pub returns : goal.returns
returns g c = rw (← c.self.view_is) c.set_row.ensures.runs
