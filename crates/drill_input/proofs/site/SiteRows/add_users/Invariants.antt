use Rattle.std.proofs.Common.{◌≡◌}
use Rattle.drill_input.specs.SiteDrawn.{and_users}
use Rattle.drill_input.proofs.site.SiteRows.add_users.Given as goal

abbrev pub invariant-users : goal.invariant-users
invariant-users l = l.self ≡ and_users l.index l.fn.self
