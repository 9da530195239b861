use Rattle.std.proofs.Common.{◌≡◌}
use Rattle.drill_input.specs.SiteDrawn.{and_nodes}
use Rattle.drill_input.proofs.site.SiteRows.add_nodes.Given as goal

abbrev pub invariant-nodes : goal.invariant-nodes
invariant-nodes l = l.self ≡ and_nodes l.index l.fn.self
