use Rattle.tables_sqlite.proofs.sqlite_six.SqliteSixSix.all_rows.Goals as goal

pub all_rows-requires : goal.all_rows-requires
all_rows-requires g c = c.self.invariant

pub invariant_of-self : goal.invariant_of-self
invariant_of-self g c = c.all_rows.ensures.serves

pub returns : goal.returns
returns g c = rw (← c.self.view_is) c.all_rows.ensures.reads
