use Rattle.tables_sqlite.proofs.sqlite_six.SqliteSixSix.one_row.Goals as goal

pub one_row-requires : goal.one_row-requires
one_row-requires g c = c.self.invariant

pub invariant_of-self : goal.invariant_of-self
invariant_of-self g c = c.one_row.ensures.serves

pub returns : goal.returns
returns g c = rw (← c.self.view_is) c.one_row.ensures.reads
