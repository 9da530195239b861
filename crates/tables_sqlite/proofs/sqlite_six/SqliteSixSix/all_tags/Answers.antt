use Rattle.tables_sqlite.proofs.sqlite_six.SqliteSixSix.all_tags.Goals as goal

pub all_tags-requires : goal.all_tags-requires
all_tags-requires g c = c.self.invariant

pub invariant_of-self : goal.invariant_of-self
invariant_of-self g c = c.all_tags.ensures.serves

pub returns : goal.returns
returns g c = rw (← c.self.view_is) c.all_tags.ensures.reads
