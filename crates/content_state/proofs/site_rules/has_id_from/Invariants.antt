use Rattle.std.proofs.Common.{◌≡◌}
use Rattle.content_state.specs.SiteRules.{has_id_from}
use Rattle.content_state.proofs.site_rules.has_id_from.Given as goal

abbrev pub invariant-rows : goal.invariant-rows
invariant-rows l = has_id_from l.state.rows l.kind l.next ≡ has_id_from l.cell-iterator l.kind l.next
