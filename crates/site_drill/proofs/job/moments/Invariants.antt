use Rattle.std.proofs.Common.{◌≡◌}
use Rattle.site_drill.specs.Drill.{moments_to}
use Rattle.site_drill.proofs.job.moments.Given as goal

abbrev pub invariant-requests : goal.invariant-requests
invariant-requests l = l.moments.items ≡ moments_to l.index
