use Rattle.tables_sqlite.proofs.sqlite_six.SqliteSixSix.begin.Goals as goal

pub begin-requires : goal.begin-requires
begin-requires g c = c.self.invariant

pub invariant_of-self : goal.invariant_of-self
invariant_of-self g c = c.begin.ensures.serves

pub returns : goal.returns
returns g c = rw (← c.self.view_is) c.begin.ensures.runs
