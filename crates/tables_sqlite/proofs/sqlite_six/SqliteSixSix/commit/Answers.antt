use Rattle.tables_sqlite.proofs.sqlite_six.SqliteSixSix.commit.Goals as goal

pub commit-requires : goal.commit-requires
commit-requires g c = c.self.invariant

pub invariant_of-self : goal.invariant_of-self
invariant_of-self g c = c.commit.ensures.serves

pub returns : goal.returns
returns g c = rw (← c.self.view_is) c.commit.ensures.runs
