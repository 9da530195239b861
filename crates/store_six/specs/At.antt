-- What a store tells at a moment, by the trait.
use Rattle.store_six.specs.Calls.{Tells, tells}
use Rattle.store_six.specs.declared.six.Six.{Ghosts}

abbrev pub at : {S : Type 0} → Ghosts S → S → Tells
at g s = tells g.clean g.is_open g.inside g.kept g.seen g.leaves g.faults s
