use Rattle.tables_sqlite.proofs.sqlite_six.SqliteSixSix.remove_row.Goals as goal

pub remove_row-requires : goal.remove_row-requires
remove_row-requires g c = c.self.invariant

pub invariant_of-self : goal.invariant_of-self
invariant_of-self g c = c.remove_row.ensures.serves

pub returns : goal.returns
returns g c = rw (← c.self.view_is) c.remove_row.ensures.runs
