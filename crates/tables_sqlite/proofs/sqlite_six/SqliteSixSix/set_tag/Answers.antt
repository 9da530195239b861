use Rattle.tables_sqlite.proofs.sqlite_six.SqliteSixSix.set_tag.Goals as goal

pub set_tag-requires : goal.set_tag-requires
set_tag-requires g c = c.self.invariant

pub invariant_of-self : goal.invariant_of-self
invariant_of-self g c = c.set_tag.ensures.serves

pub returns : goal.returns
returns g c = rw (← c.self.view_is) c.set_tag.ensures.runs
