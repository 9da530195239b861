use Rattle.std.proofs.Common.{◌≡◌}
use Rattle.site_alone.specs.Sites.{rows_of}
use Rattle.site_alone.proofs.rows.rows_of.Given as goal

abbrev pub invariant-entries : goal.invariant-entries
invariant-entries l = l.rows ≡ rows_of l.yielded
