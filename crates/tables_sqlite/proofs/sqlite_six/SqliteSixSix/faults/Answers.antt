use Rattle.std.proofs.Common.{refl}
use Rattle.tables_sqlite.proofs.sqlite_six.SqliteSixSix.faults.Goals as goal

pub returns : goal.returns
returns g c = rw (← c.self.view_is) refl
